use Rattle.std.proofs.Common.{length, ap, refl, arith, ◌∙◌}
use Rattle.std.proofs.lemmas.List.{get_or-set_other, length-set}
use Rattle.ir_store.specs.declared.operation.Value.TheVariants.{Undefined}
use Rattle.ir_store.proofs.cells.Cells.wipe.Goals as goal

pub loop-cell-init : goal.loop-cell-init
loop-cell-init c = (refl, ((λ d n. refl), (refl, refl)))

pub set-requires : goal.set-requires
set-requires c = omega (arith, c.loop-cell.invariant.0, c.requires, c.loop-cell-test.true)

pub loop-cell-preserved : goal.loop-cell-preserved
loop-cell-preserved c = (
  ap length c.set.ensures.values ∙ (length-set c.loop-cell.self.values.items c.loop-cell.cell _ ∙ c.loop-cell.invariant.0),
  (
    (λ d n.
        rw c.set.ensures.values
        (get_or-set_other c.loop-cell.self.values.items c.loop-cell.cell d _ Undefined (λ e. n (omega (arith, e, c.loop-cell.auto.cell)) (omega (arith, e)))
        ∙ c.loop-cell.invariant.1.0 d (λ p q. n p (omega (arith, q))))),
    (c.set.ensures.owners ∙ c.loop-cell.invariant.1.1.0, c.set.ensures.room ∙ c.loop-cell.invariant.1.1.1),
  ),
)

pub returns-clause-others : goal.returns-clause-others
returns-clause-others c = λ d n. c.loop-cell.invariant.1.0 d (λ p q. n p (omega (arith, q, c.loop-cell.auto.cell-end)))
