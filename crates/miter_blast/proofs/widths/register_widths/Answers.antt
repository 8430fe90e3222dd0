use Rattle.std.proofs.Common.{sym, ap, ap₂, ◌∙◌, arith, [], ◌∷◌, ◌++◌}
use Rattle.std.proofs.lemmas.List.{take_all}
use Rattle.ir_store.specs.Bodies.{ops_of}
use Rattle.ir_store.specs.Numbered.{ops_by_position}
use Rattle.body_index.specs.OpIndexes.{op_view}
use Rattle.miter_blast.specs.Leaves.{held_widths}
use Rattle.miter_blast.proofs.HeldWidths.{register_more, other_more}
use Rattle.miter_blast.proofs.widths.register_widths.Goals as goal
use Rattle.miter_blast.proofs.widths.register_widths.Goals.{then-is_register+in_ok-first_bits+in_ok-push, else-is_register}

pub loop-position-preserved : goal.loop-position-preserved
loop-position-preserved c =
    let b = c.in_ok-ops.ops.body.now in
    let os = ops_by_position (ops_of b) in
    let o = op_view b c.op_at-op.result in
    let i = c.loop-position.position in
    elim c.if-is_register.branch [
      | then-is_register+in_ok-first_bits+in_ok-push w ↦
          ap (λ v. v.items) w.widths-is ∙ w.in_ok-push.ensures.items ∙ ap₂ (λ ws n. ws ++ n ∷ []) c.loop-position.invariant w.in_ok-first_bits.ensures
          ∙ sym (register_more os i o c.op_at-op.ensures (sym c.is_register.ensures ∙ w.if-is_register.true))
      | else-is_register w ↦
          ap (λ v. v.items) w.widths-is ∙ c.loop-position.invariant ∙ sym (other_more os i o c.op_at-op.ensures (sym c.is_register.ensures ∙ w.if-is_register.false))
    ]

pub returns : goal.returns
returns c =
    let b = c.in_ok-ops.ops.body.now in
    let os = ops_by_position (ops_of b) in
    c.loop-position.invariant ∙ ap held_widths (take_all c.loop-position.position os (omega (arith, c.count-position-end.ensures, c.loop-position-test.false)))
    ∙ ap (λ x. held_widths (ops_by_position x)) (ap ops_of c.in_ok-ops.ensures)
