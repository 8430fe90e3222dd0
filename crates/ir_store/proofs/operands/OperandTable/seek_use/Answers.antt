use Rattle.std.proofs.Common.{◌≡◌, ◌≤◌, ℕ, true, false, cond, ◌∷◌, refl, ap, sym, ◌∙◌, arith}
use Rattle.std.specs.Prelude.{Contains, is_some}
use Rattle.linked_lists.specs.Ids.{times}
use Rattle.linked_lists.specs.Chains.{cell_or_none}
use Rattle.ir_store.specs.ChainedValues.{cells_of, rest_at, has_value, chain_near}
use Rattle.ir_store.specs.Uses.{use_of, live_cells}
use Rattle.linked_lists.proofs.Chaining.{once_at_most}
use Rattle.ir_store.proofs.Seeking.{step, found_at, if_some, with_part}
use Rattle.ir_store.proofs.Replacing.{value_is}
use Rattle.ir_store.proofs.UseCells.{live_head}
use Rattle.ir_store.proofs.operands.OperandTable.seek_use.Goals as goal

pub loop-at-init : goal.loop-at-init
loop-at-init c = (c.requires, refl)

pub loop-at-smaller : goal.loop-at-smaller
loop-at-smaller c =
    let inv = rw c.in-Some.is at c.loop-at.invariant in
    let most : (d : ℕ) → times d (cells_of c.args.value c.args.self.now.cells) ≤ 1 = λ d. omega (arith, c.next-at.ensures.each d, once_at_most (has_value c.args.value c.args.self.now.cells.items d)) in
    let s = step c.in-Some.cell c.next-at.result (cells_of c.args.value c.args.self.now.cells) inv.0 most (λ xs ys e. c.next-at.ensures.next xs ys e) in
    rw c.in-Some.is s.shorter

pub loop-at-preserved : goal.loop-at-preserved
loop-at-preserved c =
    let inv = rw c.in-Some.is at c.loop-at.invariant in
    let most : (d : ℕ) → times d (cells_of c.args.value c.args.self.now.cells) ≤ 1 = λ d. omega (arith, c.next-at.ensures.each d, once_at_most (has_value c.args.value c.args.self.now.cells.items d)) in
    let s = step c.in-Some.cell c.next-at.result (cells_of c.args.value c.args.self.now.cells) inv.0 most (λ xs ys e. c.next-at.ensures.next xs ys e) in
    let f : is_some (use_of c.args.links.now c.args.self.now.owners c.args.self.now.blocks c.in-Some.cell) ≡ false = ap is_some (sym c.use_of.ensures) ∙ (sym c.is_some.ensures ∙ c.if-is_some.false) in (
      if_some c.next-at.result (λ d. Contains (cells_of c.args.value c.args.self.now.cells) d) s.there,
      inv.1 ∙ (ap (live_cells c.args.links.now c.args.self.now.owners c.args.self.now.blocks) s.whole
          ∙ ap (λ b. cond b (c.in-Some.cell ∷ live_cells c.args.links.now c.args.self.now.owners c.args.self.now.blocks (rest_at c.next-at.result (cells_of c.args.value c.args.self.now.cells)))
          (live_cells c.args.links.now c.args.self.now.owners c.args.self.now.blocks (rest_at c.next-at.result (cells_of c.args.value c.args.self.now.cells)))) f),
    )

pub returns-then-is_some-clause-first : goal.returns-then-is_some-clause-first
returns-then-is_some-clause-first c =
    let inv = rw c.in-Some.is at c.loop-at.invariant in
    let f = found_at c.in-Some.cell (cells_of c.args.value c.args.self.now.cells) inv.0 in
    let t : is_some (use_of c.args.links.now c.args.self.now.owners c.args.self.now.blocks c.in-Some.cell) ≡ true = ap is_some (sym c.use_of.ensures) ∙ (sym c.is_some.ensures ∙ c.if-is_some.true) in
    sym (ap cell_or_none (inv.1 ∙ (ap (live_cells c.args.links.now c.args.self.now.owners c.args.self.now.blocks) f.rest ∙ live_head c.args.links.now c.args.self.now.owners c.args.self.now.blocks c.in-Some.cell f.back t)))

pub returns-then-is_some-clause-is_use : goal.returns-then-is_some-clause-is_use
returns-then-is_some-clause-is_use c =
    let inv = rw c.in-Some.is at c.loop-at.invariant in
    let t : is_some (use_of c.args.links.now c.args.self.now.owners c.args.self.now.blocks c.in-Some.cell) ≡ true = ap is_some (sym c.use_of.ensures) ∙ (sym c.is_some.ensures ∙ c.if-is_some.true) in
    record {
      there = inv.0;
      live = t;
      value = value_is c.args.value c.args.self.now.cells.items c.in-Some.cell (with_part c.args.value c.args.self.now.cells.items c.in-Some.cell (chain_near c.args.value c.args.self.now.cells) inv.0).1;
    }
