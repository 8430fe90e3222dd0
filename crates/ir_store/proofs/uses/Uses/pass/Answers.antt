use Rattle.std.proofs.Common.{◌≡◌, ◌≤◌, ℕ, List, length, refl, ap, sym, ◌∙◌, arith}
use Rattle.std.specs.Prelude.{Option, Some, None, Contains}
use Rattle.linked_lists.specs.Ids.{times}
use Rattle.linked_lists.specs.Chains.{times_at}
use Rattle.ir_store.specs.ChainedValues.{cells_of, has_value, rest_at}
use Rattle.ir_store.specs.Uses.{with_use, positions_of}
use Rattle.linked_lists.proofs.Chaining.{once_at_most}
use Rattle.linked_lists.proofs.IdLemmas.{times_contained, contained_times}
use Rattle.ir_store.proofs.Seeking.{step}
use Rattle.ir_store.proofs.uses.Uses.pass.Goals as goal

-- the cell that comes next is among those of the value
here : (cells : List ℕ) (at : Option ℕ) (c : ℕ) → times_at at cells ≡ 1 → at ≡ Some c → Contains cells c
here cells None c e s = absurd (cc s)
here cells (Some d) c e s = let same : d ≡ c = cc s in times_contained cells c (omega (arith, ap (λ n. times n cells) same, e))

-- so is the one after it
still : (cells : List ℕ) (next : Option ℕ) → ((d : ℕ) → times d cells ≤ 1) → ((d : ℕ) → next ≡ Some d → Contains cells d) → times_at next cells ≡ 1
still cells None most there = refl
still cells (Some d) most there = omega (arith, most d, contained_times cells d (there d refl))

pub next-self-requires : goal.next-self-requires
next-self-requires c = here (cells_of c.args.self.now.value c.args.self.now.operands.now.cells) c.args.self.now.at c.args.cell c.args.self.now.here c.requires

pub invariant_of-self : goal.invariant_of-self
invariant_of-self c =
    let most : (d : ℕ) → times d (cells_of c.args.self.now.value c.args.self.now.operands.now.cells) ≤ 1 = λ d. omega
    (arith, c.next-self.ensures.each d, once_at_most (has_value c.args.self.now.value c.args.self.now.operands.now.cells.items d)) in
    let s = step c.args.cell c.next-self.result (cells_of c.args.self.now.value c.args.self.now.operands.now.cells)
    (here (cells_of c.args.self.now.value c.args.self.now.operands.now.cells) c.args.self.now.at c.args.cell c.args.self.now.here c.requires) most (λ xs ys e. c.next-self.ensures.next xs ys e) in
    record { here = still (cells_of c.args.self.now.value c.args.self.now.operands.now.cells) c.next-self.result most s.there }

pub returns-clause-left : goal.returns-clause-left
returns-clause-left c =
    let most : (d : ℕ) → times d (cells_of c.args.self.now.value c.args.self.now.operands.now.cells) ≤ 1 = λ d. omega
    (arith, c.next-self.ensures.each d, once_at_most (has_value c.args.self.now.value c.args.self.now.operands.now.cells.items d)) in
    let s = step c.args.cell c.next-self.result (cells_of c.args.self.now.value c.args.self.now.operands.now.cells)
    (here (cells_of c.args.self.now.value c.args.self.now.operands.now.cells) c.args.self.now.at c.args.cell c.args.self.now.here c.requires) most (λ xs ys e. c.next-self.ensures.next xs ys e) in
    ap (λ o. positions_of c.args.self.now.links.now c.args.self.now.operands.now.owners c.args.self.now.operands.now.blocks (rest_at o (cells_of c.args.self.now.value c.args.self.now.operands.now.cells))) c.requires
    ∙ (ap (positions_of c.args.self.now.links.now c.args.self.now.operands.now.owners c.args.self.now.operands.now.blocks) s.whole
    ∙ ap (λ o. with_use o (positions_of c.args.self.now.links.now c.args.self.now.operands.now.owners c.args.self.now.operands.now.blocks
    (rest_at c.next-self.result (cells_of c.args.self.now.value c.args.self.now.operands.now.cells)))) (sym c.use_of-position.ensures))

pub returns-clause-fewer : goal.returns-clause-fewer
returns-clause-fewer c =
    let most : (d : ℕ) → times d (cells_of c.args.self.now.value c.args.self.now.operands.now.cells) ≤ 1 = λ d. omega
    (arith, c.next-self.ensures.each d, once_at_most (has_value c.args.self.now.value c.args.self.now.operands.now.cells.items d)) in
    let s = step c.args.cell c.next-self.result (cells_of c.args.self.now.value c.args.self.now.operands.now.cells)
    (here (cells_of c.args.self.now.value c.args.self.now.operands.now.cells) c.args.self.now.at c.args.cell c.args.self.now.here c.requires) most (λ xs ys e. c.next-self.ensures.next xs ys e) in
    omega (arith, s.shorter, ap (λ o. length (rest_at o (cells_of c.args.self.now.value c.args.self.now.operands.now.cells))) c.requires)
