use Rattle.std.proofs.Common.{◌≡◌, ℕ, false, true, [], ◌∷◌, ◌++◌, List, get_or, refl, ap, sym, ◌∙◌}
use Rattle.std.specs.Prelude.{Contains}
use Rattle.linked_lists.specs.Chains.{cell_or_none}
use Rattle.ir_store.specs.ChainedValues.{has_value}
use Rattle.ir_store.proofs.Seeking.{step, chain_most, found_first, if_some}
use Rattle.ir_store.proofs.chained_values.ChainedValues.seek.Goals as goal

pub loop-at-init : goal.loop-at-init
loop-at-init c = (c.requires, refl)

pub returns-then-has : goal.returns-then-has
returns-then-has c =
    let inv = rw c.in-Some.is at c.loop-at.invariant in
    let t : has_value c.args.value c.args.self.now.items c.in-Some.cell ≡ true = sym c.has.ensures ∙ c.if-has.true in
    found_first c.args.value c.args.self.now.items c.in-Some.cell (get_or c.args.self.now.chains c.args.head []) inv.0 t ∙ sym inv.1

pub loop-at-smaller : goal.loop-at-smaller
loop-at-smaller c =
    let inv = rw c.in-Some.is at c.loop-at.invariant in
    let most : (v : ℕ) → _ = chain_most c.self.inside.values.items c.self.inside.chains c.self.invariant c.args.head in
    let after : (xs ys : List ℕ) → get_or c.args.self.now.chains c.args.head [] ≡ xs ++ c.in-Some.cell ∷ ys → c.next-at.result ≡ cell_or_none ys = λ xs ys e. c.next-at.ensures c.args.head xs ys (rw (← c.self.view_is) at e) in
    rw c.in-Some.is (step c.in-Some.cell c.next-at.result (get_or c.args.self.now.chains c.args.head []) inv.0 (rw (← c.self.view_is) most) after).shorter

pub loop-at-preserved : goal.loop-at-preserved
loop-at-preserved c =
    let inv = rw c.in-Some.is at c.loop-at.invariant in
    let most = chain_most c.self.inside.values.items c.self.inside.chains c.self.invariant c.args.head in
    let after : (xs ys : List ℕ) → get_or c.args.self.now.chains c.args.head [] ≡ xs ++ c.in-Some.cell ∷ ys → c.next-at.result ≡ cell_or_none ys = λ xs ys e. c.next-at.ensures c.args.head xs ys (rw (← c.self.view_is) at e) in
    let s = step c.in-Some.cell c.next-at.result (get_or c.args.self.now.chains c.args.head []) inv.0 (rw (← c.self.view_is) most) after in
    let f : has_value c.args.value c.args.self.now.items c.in-Some.cell ≡ false = sym c.has.ensures ∙ c.if-has.false in (
      if_some c.next-at.result (λ d. Contains (get_or c.args.self.now.chains c.args.head []) d) s.there,
      inv.1 ∙ ap cell_or_none (s.skips c.args.value c.args.self.now.items f),
    )

pub returns : goal.returns
returns c =
    let inv = rw c.in_default.is at c.loop-at.invariant in
    sym inv.1
