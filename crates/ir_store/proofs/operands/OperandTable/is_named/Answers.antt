use Rattle.std.proofs.Common.{◌≡◌, ℕ, ◌≤◌, ◌++◌, ◌∷◌, List, true, false, length, cond, refl, ap, sym, ◌∙◌, arith}
use Rattle.std.specs.Prelude.{Contains}
use Rattle.ir_store.specs.declared.operation.Value.TheVariants.{Result}
use Rattle.linked_lists.specs.Ids.{times}
use Rattle.linked_lists.specs.Chains.{cell_or_none, has_head}
use Rattle.ir_store.specs.ChainedValues.{chain_near, head_at, head_of, rest_at}
use Rattle.ir_store.specs.Uses.{names_at, any_names}
use Rattle.ir_store.proofs.UseNames.{some_named, none_named, one_head}
use Rattle.linked_lists.proofs.Chaining.{once_at_most}
use Rattle.ir_store.proofs.Seeking.{step, found_at, if_some}
use Rattle.ir_store.proofs.operands.OperandTable.is_named.Goals as goal

pub returns-then-names-clause-some : goal.returns-then-names-clause-some
returns-then-names-clause-some c =
    λ _.
    let inv = rw c.in-Some.is at c.loop-at.invariant in
    let f = found_at c.in-Some.cell (chain_near (Result c.args.op 0) c.args.self.now.cells) inv.0 in
    let t : names_at c.args.links.now c.args.self.now.owners c.args.self.now.blocks c.args.self.now.cells.items c.args.op.index c.in-Some.cell ≡ true = sym c.names.ensures ∙ c.if-names.true in
    let any : any_names c.args.links.now c.args.self.now.owners c.args.self.now.blocks c.args.self.now.cells.items c.args.op.index (chain_near (Result c.args.op 0) c.args.self.now.cells)
    ≡ true = inv.1 ∙ (ap (any_names c.args.links.now c.args.self.now.owners c.args.self.now.blocks c.args.self.now.cells.items c.args.op.index) f.rest
    ∙ ap (λ b. cond b true (any_names c.args.links.now c.args.self.now.owners c.args.self.now.blocks c.args.self.now.cells.items c.args.op.index f.back)) t) in
    rw (← c.self.view_is) (some_named c.args.links.now c.self.inside.cells.values.items c.self.inside.cells.owners.items c.self.inside.blocks.items c.self.inside.live c.self.invariant.0 c.args.op.index (chain_near (Result c.args.op 0) c.self.inside.cells.values) (rw (← c.self.view_is) at any))

pub loop-at-smaller : goal.loop-at-smaller
loop-at-smaller c =
    let inv = rw c.in-Some.is at c.loop-at.invariant in
    let most : (d : ℕ) → times d (chain_near (Result c.args.op 0) c.self.inside.cells.values) ≤ 1 =
    λ d. omega (
      arith,
      c.first_near-at.ensures.members d,
      once_at_most (has_head (head_at (length c.self.inside.cells.values.chains) c.self.inside.cells.values.items d)
          (head_of (length c.self.inside.cells.values.chains) (Result c.args.op 0))),
    ) in
    let after : (xs ys : List ℕ) → (chain_near (Result c.args.op 0) c.args.self.now.cells) ≡ xs ++ c.in-Some.cell ∷ ys → c.next_near-at.result
    ≡ cell_or_none ys = λ xs ys e. c.next_near-at.ensures (head_of (length c.self.inside.cells.values.chains) (Result c.args.op 0)) xs ys (rw (← c.self.view_is) at e) in
    let s = step c.in-Some.cell c.next_near-at.result (chain_near (Result c.args.op 0) c.args.self.now.cells) inv.0 (rw (← c.self.view_is) most) after in
    rw c.in-Some.is s.shorter

pub loop-at-preserved : goal.loop-at-preserved
loop-at-preserved c =
    let inv = rw c.in-Some.is at c.loop-at.invariant in
    let most : (d : ℕ) → times d (chain_near (Result c.args.op 0) c.self.inside.cells.values) ≤ 1 =
    λ d. omega (
      arith,
      c.first_near-at.ensures.members d,
      once_at_most (has_head (head_at (length c.self.inside.cells.values.chains) c.self.inside.cells.values.items d)
          (head_of (length c.self.inside.cells.values.chains) (Result c.args.op 0))),
    ) in
    let after : (xs ys : List ℕ) → (chain_near (Result c.args.op 0) c.args.self.now.cells) ≡ xs ++ c.in-Some.cell ∷ ys → c.next_near-at.result
    ≡ cell_or_none ys = λ xs ys e. c.next_near-at.ensures (head_of (length c.self.inside.cells.values.chains) (Result c.args.op 0)) xs ys (rw (← c.self.view_is) at e) in
    let s = step c.in-Some.cell c.next_near-at.result (chain_near (Result c.args.op 0) c.args.self.now.cells) inv.0 (rw (← c.self.view_is) most) after in
    let f : names_at c.args.links.now c.args.self.now.owners c.args.self.now.blocks c.args.self.now.cells.items c.args.op.index c.in-Some.cell ≡ false = sym c.names.ensures ∙ c.if-names.false in (
      if_some c.next_near-at.result (λ d. Contains (chain_near (Result c.args.op 0) c.args.self.now.cells) d) s.there,
      inv.1 ∙ (ap (any_names c.args.links.now c.args.self.now.owners c.args.self.now.blocks c.args.self.now.cells.items c.args.op.index) s.whole
          ∙ ap (λ b. cond b true (any_names c.args.links.now c.args.self.now.owners c.args.self.now.blocks c.args.self.now.cells.items c.args.op.index
          (rest_at c.next_near-at.result (chain_near (Result c.args.op 0) c.args.self.now.cells)))) f),
    )

pub returns-clause-none : goal.returns-clause-none
returns-clause-none c =
    λ _.
    let inv = rw c.in_default.is at c.loop-at.invariant in
    let any : any_names c.args.links.now c.args.self.now.owners c.args.self.now.blocks c.args.self.now.cells.items c.args.op.index (chain_near (Result c.args.op 0) c.args.self.now.cells) ≡ false = inv.1 in
    rw (← c.self.view_is)
    (none_named c.args.links.now c.self.inside.cells.values.items c.self.inside.cells.owners.items c.self.inside.blocks.items c.self.inside.live c.self.invariant.0 c.args.op.index
    (length c.self.inside.cells.values.chains) (head_of (length c.self.inside.cells.values.chains) (Result c.args.op 0)) (chain_near (Result c.args.op 0) c.self.inside.cells.values)
    (λ v t. one_head (length c.self.inside.cells.values.chains) c.args.op.index c.args.op v refl t) c.first_near-at.ensures.members (rw (← c.self.view_is) at any))
