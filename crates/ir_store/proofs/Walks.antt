-- Walks over the ids of a body.
use Rattle.std.proofs.Common.{◌≡◌, ℕ, zero, suc, ◌≤◌, Bool, true, false, cond, nat_eq, List, [], ◌∷◌, map, All, Contains, slice_get, Option, Some, None, refl, sym, ap, subst, ◌∙◌, arith, eq-eqb, ne_eqb}
use Rattle.std.proofs.lemmas.Bool.{eqb-false}
use Rattle.std.proofs.lemmas.List.Elements.{All-head, All-tail, All-contains_itself}
use Rattle.ir_store.specs.declared.operation.OpId.{OpId}
use Rattle.ir_store.specs.Bodies.{op_id}
use Rattle.ir_store.specs.BodyOps.{BodyOp, op_at, ids_in}
use Rattle.linked_lists.specs.Ids.{times}
use Rattle.ir_store.specs.Live.{AreDistinct}
use Rattle.ir_store.proofs.Living.{all_mapped}

-- an operation, where there is one, before others
abbrev pub in_prefix : Option BodyOp → List BodyOp → List BodyOp
in_prefix None ops = ops
in_prefix (Some o) ops = o ∷ ops

-- the operations of ids, in their order
abbrev pub ops_at : List BodyOp → List OpId → List BodyOp
ops_at ops [] = []
ops_at ops (i ∷ is) = in_prefix (op_at ops i.index) (ops_at ops is)

-- each of some operations is found by its id
abbrev AreFound : List BodyOp → List BodyOp → Type 0
AreFound whole [] = Unit {0}
AreFound whole (o ∷ os) = (op_at whole o.id ≡ Some o) × AreFound whole os

found_in : (whole os : List BodyOp) → AreFound whole os → ops_at whole (map op_id (ids_in os)) ≡ os
found_in whole [] h = refl
found_in whole (o ∷ os) h = ap (λ (r : Option BodyOp). in_prefix r (ops_at whole (map op_id (ids_in os)))) h.0 ∙ ap (λ (rest : List BodyOp). o ∷ rest) (found_in whole os h.1)

-- after another operation, where none of them has its id
found_after : (o : BodyOp) (whole os : List BodyOp) → times o.id (ids_in os) ≡ 0 → AreFound whole os → AreFound (o ∷ whole) os
found_after o whole [] none h = tt
found_after o whole (p ∷ os) none h = go (nat_eq p.id o.id) refl none (λ n. found_after o whole os n h.1)
  where
    go : (b : Bool) → nat_eq p.id o.id ≡ b → cond b (suc (times o.id (ids_in os))) (times o.id (ids_in os)) ≡ 0
        → (times o.id (ids_in os) ≡ 0 → AreFound (o ∷ whole) os) → (op_at (o ∷ whole) p.id ≡ Some p) × AreFound (o ∷ whole) os
    go true e n rest = absurd (omega (arith, n))
    go false e n rest =
        let other : nat_eq o.id p.id ≡ false = ne_eqb o.id p.id (λ same. eqb-false p.id o.id e (sym same)) in
        (rw other h.0, rest n)

found_all : (ops : List BodyOp) → AreDistinct (ids_in ops) → AreFound ops ops
found_all [] once = tt
found_all (o ∷ os) once = (rw (eq-eqb o.id o.id refl) refl, found_after o os os (none (nat_eq o.id o.id) (eq-eqb o.id o.id refl) (once o.id)) (found_all os (λ v. fewer v (nat_eq o.id v) (once v))))
  where
    fewer : (v : ℕ) (b : Bool) → cond b (suc (times v (ids_in os))) (times v (ids_in os)) ≤ 1 → times v (ids_in os) ≤ 1
    fewer v true h = omega (arith, h)
    fewer v false h = h

    none : (b : Bool) → b ≡ true → cond b (suc (times o.id (ids_in os))) (times o.id (ids_in os)) ≤ 1 → times o.id (ids_in os) ≡ 0
    none true e h = omega (arith, h)
    none false e h = cc

-- the ids of a body lead through all of it
pub through_all : (ops : List BodyOp) → AreDistinct (ids_in ops) → ops_at ops (map op_id (ids_in ops)) ≡ ops
through_all ops once = found_in ops ops (found_all ops once)

-- one step of the walk
pub walk : (ops : List BodyOp) (i : OpId) (before after : List OpId) (o : BodyOp) → op_at ops i.index ≡ Some o → before ≡ i ∷ after → ops_at ops before ≡ o ∷ ops_at ops after
walk ops i before after o found steps = ap (ops_at ops) steps ∙ ap (λ (r : Option BodyOp). in_prefix r (ops_at ops after)) found

-- an operation is found by its id
pub found_by_id : (ops : List BodyOp) → AreDistinct (ids_in ops) → (j : ℕ) (o : BodyOp) → slice_get ops j ≡ Some o → op_at ops o.id ≡ Some o
found_by_id ops once j o there = among ops j there (found_all ops once)
  where
    among : (os : List BodyOp) (k : ℕ) → slice_get os k ≡ Some o → AreFound ops os → op_at ops o.id ≡ Some o
    among [] k e h = cc
    among (p ∷ os) zero e h = let same : p ≡ o = cc in subst (λ (x : BodyOp). op_at ops x.id ≡ Some x) same h.0
    among (p ∷ os) (suc k) e h = among os k e h.1

-- ---- the ids that a walk leaves are those of the body

module _ (ids : List ℕ) where
  -- each of some ids is one of these
  abbrev pub AreAmong : List OpId → Type 0
  AreAmong is = All (λ (i : OpId). Contains ids i.index) is

  pub all_among : (left : List OpId) → left ≡ map op_id ids → AreAmong left
  all_among left all = subst AreAmong (sym all) (all_mapped (Contains ids) (λ (i : OpId). Contains ids i.index) op_id (λ x h. h) ids (All-contains_itself ids))

  pub first_among : (i : OpId) (before after : List OpId) → before ≡ i ∷ after → AreAmong before → Contains ids i.index
  first_among i before after steps among = All-head (λ (j : OpId). Contains ids j.index) i after (subst AreAmong steps among)

  pub rest_among : (i : OpId) (before after : List OpId) → before ≡ i ∷ after → AreAmong before → AreAmong after
  rest_among i before after steps among = All-tail (λ (j : OpId). Contains ids j.index) i after (subst AreAmong steps among)
