use Rattle.std.proofs.Common.{◌≤◌, ℕ, ◌∷◌, ap, sym, ◌∙◌, arith}
use Rattle.std.specs.Prelude.{Contains}
use Rattle.linked_lists.specs.Ids.{times}
use Rattle.ir_store.specs.ChainedValues.{cells_of, rest_at, has_value}
use Rattle.ir_store.specs.Uses.{live_cells}
use Rattle.linked_lists.proofs.Chaining.{once_at_most}
use Rattle.ir_store.proofs.Seeking.{step, if_some}
use Rattle.ir_store.proofs.UseCells.{live_head}
use Rattle.ir_store.proofs.operands.OperandTable.next_use.Goals as goal

pub seek_use-requires : goal.seek_use-requires
seek_use-requires c =
    let there : Contains (cells_of c.value-value.result c.args.self.now.cells) c.args.cell = rw c.value-value.ensures c.requires.there in
    let most : (d : ℕ) → times d (cells_of c.value-value.result c.args.self.now.cells) ≤ 1 = λ d. omega (arith, c.next.ensures.each d, once_at_most (has_value c.value-value.result c.args.self.now.cells.items d)) in
    let s = step c.args.cell c.next.result (cells_of c.value-value.result c.args.self.now.cells) there most (λ xs ys e. c.next.ensures.next xs ys e) in
    if_some c.next.result (λ d. Contains (cells_of c.value-value.result c.args.self.now.cells) d) s.there

pub returns-clause-left : goal.returns-clause-left
returns-clause-left c =
    let there : Contains (cells_of c.value-value.result c.args.self.now.cells) c.args.cell = rw c.value-value.ensures c.requires.there in
    let most : (d : ℕ) → times d (cells_of c.value-value.result c.args.self.now.cells) ≤ 1 = λ d. omega (arith, c.next.ensures.each d, once_at_most (has_value c.value-value.result c.args.self.now.cells.items d)) in
    let s = step c.args.cell c.next.result (cells_of c.value-value.result c.args.self.now.cells) there most (λ xs ys e. c.next.ensures.next xs ys e) in
    rw (← c.value-value.ensures)
    (ap (live_cells c.args.links.now c.args.self.now.owners c.args.self.now.blocks) s.whole
    ∙ (live_head c.args.links.now c.args.self.now.owners c.args.self.now.blocks c.args.cell (rest_at c.next.result (cells_of c.value-value.result c.args.self.now.cells)) c.requires.live
    ∙ ap (λ zs. c.args.cell ∷ zs) (sym c.seek_use.ensures.left)))
