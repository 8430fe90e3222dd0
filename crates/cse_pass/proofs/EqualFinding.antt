-- The first equal operation is found among those of one hash.
use Rattle.std.proofs.Common.{◌≡◌, ℕ, suc, Bool, true, false, cond, nat_eq, List, [], ◌∷◌, ◌++◌, map, filter, find, Option, Some, None, option_map, IfSome, All, refl, sym, ap, ◌∙◌, eq-eqb}
use Rattle.std.proofs.lemmas.Bool.{eqb-true}
use Rattle.std.proofs.lemmas.List.Elements.{All-head, All-tail}
use Rattle.ir_store.specs.declared.operation.OpId.{OpId}
use Rattle.ir_store.specs.Bodies.{op_id}
use Rattle.ir_store.specs.BodyOps.{BodyOp, ids_in}
use Rattle.ir_store.specs.Numbered.{position_of, op_by}
use Rattle.cse_pass.specs.EqualOps.{are_equal, equal_position}

-- ---- lists

-- what is found passes the test
pub found_passes : {A : Type 0} (test : A → Bool) (xs : List A) (x : A) → find test xs ≡ Some x → test x ≡ true
found_passes test [] x is = cc
found_passes test (y ∷ xs) x is = go (test y) refl is (found_passes test xs x)
  where
    go : (b : Bool) → test y ≡ b → cond b (Some y) (find test xs) ≡ Some x → (find test xs ≡ Some x → test x ≡ true) → test x ≡ true
    go true here same later = let one : y ≡ x = cc in ap test (sym one) ∙ here
    go false here same later = later same

-- what is found has what each has
pub found_has : {A : Type 0} (P : A → Type 0) (test : A → Bool) (xs : List A) → All P xs → IfSome (find test xs) P
found_has P test [] all = tt
found_has P test (x ∷ xs) all = go (test x) (All-head P x xs all) (found_has P test xs (All-tail P x xs all))
  where
    go : (b : Bool) → P x → IfSome (find test xs) P → IfSome (cond b (Some x) (find test xs)) P
    go true here later = here
    go false here later = later

-- ---- among operations of one hash

-- an operation that is visited, beside the one that is looked for: the test by ids is equality, and holds of what is kept only
pub record IsTested (P : ℕ → ℕ) (test : OpId → Bool) (keep : BodyOp → Bool) (o p : BodyOp) : Type 0 where
  pub is : test (op_id p.id) ≡ are_equal (op_by P p) (op_by P o)
  pub kept : test (op_id p.id) ≡ true → keep p ≡ true

module _ (P : ℕ → ℕ) (test : OpId → Bool) (keep : BodyOp → Bool) (o : BodyOp) (rest : List BodyOp) where
  pub finds_equal : (prefix : List BodyOp) → All (IsTested P test keep o) prefix
      → equal_position (op_by P o) (map (op_by P) prefix)
      ≡ option_map (λ (id : OpId). position_of (ids_in (prefix ++ rest)) id.index) (find test (map (λ (p : BodyOp). op_id p.id) (filter keep prefix)))
  finds_equal [] all = refl
  finds_equal (p ∷ ps) all =
      ap (λ b. cond b (Some 0) (option_map suc (equal_position (op_by P o) (map (op_by P) ps)))) (sym here.is)
      ∙ go (test (op_id p.id)) refl (keep p) refl here.kept (finds_equal ps (All-tail (IsTested P test keep o) p ps all))
    where
      here : IsTested P test keep o p
      here = All-head (IsTested P test keep o) p ps all

      -- a later one has another id, since it passes the test
      later : (x : Option OpId) → find test (map (λ (p : BodyOp). op_id p.id) (filter keep ps)) ≡ x → test (op_id p.id) ≡ false
          → option_map suc (option_map (λ (id : OpId). position_of (ids_in (ps ++ rest)) id.index) x) ≡ option_map (λ (id : OpId). position_of (ids_in (p ∷ ps ++ rest)) id.index) x
      later None is other = refl
      later (Some id) is other = ap Some (other_id (nat_eq p.id id.index) refl)
        where
          other_id : (b : Bool) → nat_eq p.id id.index ≡ b → suc (position_of (ids_in (ps ++ rest)) id.index) ≡ cond b 0 (suc (position_of (ids_in (ps ++ rest)) id.index))
          other_id true same =
              let one : op_id p.id ≡ id = ap op_id (eqb-true p.id id.index same) in
              let clash : true ≡ false = sym (ap test one ∙ found_passes test (map (λ (p : BodyOp). op_id p.id) (filter keep ps)) id is) ∙ other in
              cc
          other_id false same = refl

      found_first : (k : Bool) → k ≡ true → test (op_id p.id) ≡ true
          → Some 0 ≡ option_map (λ (id : OpId). position_of (ids_in (p ∷ ps ++ rest)) id.index) (find test (map (λ (p : BodyOp). op_id p.id) (cond k (p ∷ filter keep ps) (filter keep ps))))
      found_first true kept passes =
          ap Some (sym (ap (λ b. cond b 0 (suc (position_of (ids_in (ps ++ rest)) p.id))) (eq-eqb p.id p.id refl)))
          ∙ ap (λ b. option_map (λ (id : OpId). position_of (ids_in (p ∷ ps ++ rest)) id.index) (cond b (Some (op_id p.id)) (find test (map (λ (p : BodyOp). op_id p.id) (filter keep ps))))) (sym passes)
      found_first false kept passes = cc

      passed_by : (k : Bool) → test (op_id p.id) ≡ false
          → find test (map (λ (p : BodyOp). op_id p.id) (filter keep ps)) ≡ find test (map (λ (p : BodyOp). op_id p.id) (cond k (p ∷ filter keep ps) (filter keep ps)))
      passed_by true other = ap (λ b. cond b (Some (op_id p.id)) (find test (map (λ (p : BodyOp). op_id p.id) (filter keep ps)))) (sym other)
      passed_by false other = refl

      go : (b : Bool) → test (op_id p.id) ≡ b → (k : Bool) → keep p ≡ k → (test (op_id p.id) ≡ true → keep p ≡ true)
          → equal_position (op_by P o) (map (op_by P) ps) ≡ option_map (λ (id : OpId). position_of (ids_in (ps ++ rest)) id.index) (find test (map (λ (p : BodyOp). op_id p.id) (filter keep ps)))
          → cond b (Some 0) (option_map suc (equal_position (op_by P o) (map (op_by P) ps)))
          ≡ option_map (λ (id : OpId). position_of (ids_in (p ∷ ps ++ rest)) id.index) (find test (map (λ (p : BodyOp). op_id p.id) (cond k (p ∷ filter keep ps) (filter keep ps))))
      go true passes k is kept rest_is = found_first k (sym is ∙ kept passes) passes
      go false other k is kept rest_is =
          ap (option_map suc) rest_is
          ∙ later (find test (map (λ (p : BodyOp). op_id p.id) (filter keep ps))) refl other
          ∙ ap (option_map (λ (id : OpId). position_of (ids_in (p ∷ ps ++ rest)) id.index)) (passed_by k other)
