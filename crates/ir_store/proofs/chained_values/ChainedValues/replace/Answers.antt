use Rattle.std.proofs.Common.{◌≡◌, ℕ, true, false, refl, ap, sym, ◌∙◌, arith}
use Rattle.ir_store.specs.BodyOps.{same_value}
use Rattle.linked_lists.specs.Chains.{cell_or_none}
use Rattle.ir_store.specs.ChainedValues.{cells_of, has_value}
use Rattle.ir_store.proofs.Replacing.{cell_written, none_left, same_kept, first_among, none_among, is_once, is_never, next_after}
use Rattle.linked_lists.proofs.IdLemmas.{times_contained}
use Rattle.ir_store.proofs.chained_values.ChainedValues.replace.Goals as goal

pub returns-then-is_same-clause-items : goal.returns-then-is_same-clause-items
returns-then-is_same-clause-items c = same_kept c.args.from c.args.to c.args.self.now.items (sym c.is_same.ensures ∙ c.if-is_same.true)

pub loop-at-init : goal.loop-at-init
loop-at-init c = (refl, (refl, (c.first-at.ensures.first, c.first-at.ensures.each)))

pub next-at-requires : goal.next-at-requires
next-at-requires c =
    times_contained (cells_of c.args.from c.loop-at.self) c.in-Some.cell (first_among c.in-Some.cell (cells_of c.args.from c.loop-at.self) (sym c.loop-at.invariant.1.1.0 ∙ c.in-Some.is))

pub set-requires : goal.set-requires
set-requires c =
    let there = first_among c.in-Some.cell (cells_of c.args.from c.loop-at.self) (sym c.loop-at.invariant.1.1.0 ∙ c.in-Some.is) in
    let has : has_value c.args.from c.loop-at.self.items c.in-Some.cell ≡ true = is_once (has_value c.args.from c.loop-at.self.items c.in-Some.cell) (omega (arith, there, c.loop-at.invariant.1.1.1 c.in-Some.cell)) in
    let w = cell_written c.args.from c.args.to c.loop-at.self.items c.in-Some.cell has in
    w.within

pub loop-at-smaller : goal.loop-at-smaller
loop-at-smaller c =
    let there = first_among c.in-Some.cell (cells_of c.args.from c.loop-at.self) (sym c.loop-at.invariant.1.1.0 ∙ c.in-Some.is) in
    let has : has_value c.args.from c.loop-at.self.items c.in-Some.cell ≡ true = is_once (has_value c.args.from c.loop-at.self.items c.in-Some.cell) (omega (arith, there, c.loop-at.invariant.1.1.1 c.in-Some.cell)) in
    let w = cell_written c.args.from c.args.to c.loop-at.self.items c.in-Some.cell has in
    let other : same_value c.args.from c.args.to ≡ false = sym c.is_same.ensures ∙ c.if-is_same.false in
    rw c.set.ensures.items (w.fewer other)

pub loop-at-preserved : goal.loop-at-preserved
loop-at-preserved c =
    let there = first_among c.in-Some.cell (cells_of c.args.from c.loop-at.self) (sym c.loop-at.invariant.1.1.0 ∙ c.in-Some.is) in
    let has : has_value c.args.from c.loop-at.self.items c.in-Some.cell ≡ true = is_once (has_value c.args.from c.loop-at.self.items c.in-Some.cell) (omega (arith, there, c.loop-at.invariant.1.1.1 c.in-Some.cell)) in
    let w = cell_written c.args.from c.args.to c.loop-at.self.items c.in-Some.cell has in
    let other : same_value c.args.from c.args.to ≡ false = sym c.is_same.ensures ∙ c.if-is_same.false in
    let next = next_after c.in-Some.cell (cells_of c.args.from c.loop-at.self) c.next-at.result (sym c.loop-at.invariant.1.1.0 ∙ c.in-Some.is) (λ xs ys e. c.next-at.ensures.next xs ys e) in (
      rw c.set.ensures.items (w.kept ∙ c.loop-at.invariant.0),
      (c.set.ensures.room ∙ c.loop-at.invariant.1.0, (next ∙ ap cell_or_none (sym (c.set.ensures.gone c.args.from has other)), c.set.ensures.each c.args.from)),
    )

pub returns-clause-items : goal.returns-clause-items
returns-clause-items c =
    let none : (d : ℕ) → has_value c.args.from c.loop-at.self.items d ≡ false =
    λ d. is_never (has_value c.args.from c.loop-at.self.items d) (sym (none_among d (cells_of c.args.from c.loop-at.self) (sym c.loop-at.invariant.1.1.0 ∙ c.in_default.is)) ∙ c.loop-at.invariant.1.1.1 d) in
    none_left c.args.from c.args.to c.loop-at.self.items none ∙ c.loop-at.invariant.0

pub returns-clause-room : goal.returns-clause-room
returns-clause-room c = c.loop-at.invariant.1.0
