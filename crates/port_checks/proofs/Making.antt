-- What is made of the operations of a body and of the modules of a design, one after another.
use Rattle.std.proofs.Common.{◌≡◌, ◌⊎◌, ℕ, zero, suc, ◌+◌, ◌≤◌, List, [], ◌∷◌, ◌++◌, map, length, flat_map, take, slice_get, Some, refl, sym, ap, ap₂, subst, ◌∙◌, inl, inr, arith, append_assoc}
use Rattle.std.proofs.lemmas.List.{append-nil, length-map, take_all}
use Rattle.wiring.specs.Wiring.{In}
use Rattle.wiring.proofs.Members.{In-append_left, In-append_right, In-append_cases}
use Rattle.hw_model.specs.Design.{Op, Module}
use Rattle.ir_store.specs.declared.operation.OpId.{OpId}
use Rattle.ir_store.specs.BodyOps.{BodyOp, op_at, ids_in}
use Rattle.ir_store.specs.Designs.{StoredModule, numbered_module}
use Rattle.ir_store.specs.Numbered.{position_of, op_by, ops_by_position}
use Rattle.ir_store.proofs.Walks.{ops_at, walk}
use Rattle.ir_store.proofs.StoredModules.{stored_at}
use Rattle.port_checks.specs.Seen.{body_op_seen}
use Rattle.port_checks.specs.Joins.{made_from}

-- ---- of operations

module _ {A : Type 0} (f : Op → List A) where
  -- of the operations of a body as they are seen
  abbrev pub made_of : List BodyOp → List A
  made_of [] = []
  made_of (o ∷ os) = f (body_op_seen o) ++ made_of os

  -- one step more
  pub made_step : (whole : List BodyOp) (all old new : List A) (i : OpId) (before left : List OpId) (o : BodyOp) → op_at whole i.index ≡ Some o → before ≡ i ∷ left
      → new ≡ old ++ f (body_op_seen o) → old ++ made_of (ops_at whole before) ≡ all → new ++ made_of (ops_at whole left) ≡ all
  made_step whole all old new i before left o found steps pushed so_far =
      ap (λ xs. xs ++ made_of (ops_at whole left)) pushed
      ∙ append_assoc old (f (body_op_seen o)) (made_of (ops_at whole left))
      ∙ ap (λ os. old ++ made_of os) (sym (walk whole i before left o found steps))
      ∙ so_far

  -- the positions that stand for ids are of no account
  pub made_by_position : ((position : ℕ → ℕ) (o : BodyOp) → f (op_by position o) ≡ f (body_op_seen o)) → (ops : List BodyOp) → flat_map f (ops_by_position ops) ≡ made_of ops
  made_by_position same ops = go ops
    where
      go : (os : List BodyOp) → flat_map f (map (op_by (position_of (ids_in ops))) os) ≡ made_of os
      go [] = refl
      go (o ∷ os) = ap₂ (λ xs ys. xs ++ ys) (same (position_of (ids_in ops)) o) (go os)

-- ---- of modules

module _ {A : Type 0} (f : ℕ → Module → List A) where
  -- of one module more
  pub made_more : (i n k : ℕ) (ms : List Module) (m : Module) → k ≡ i + n → slice_get ms n ≡ Some m
      → made_from f i (take (suc n) ms) ≡ made_from f i (take n ms) ++ f k m
  made_more i n k [] m e is = cc
  made_more i zero k (x ∷ ms) m e is =
      let first : i ≡ k = omega arith in
      let same : x ≡ m = cc in
      append-nil (f i x) ∙ ap₂ f first same
  made_more i (suc n) k (x ∷ ms) m e is =
      ap (λ ys. f i x ++ ys) (made_more (suc i) n k ms m (omega arith) is) ∙ sym (append_assoc (f i x) (made_from f (suc i) (take n ms)) (f k m))

  pub made_some : (i : ℕ) (ms : List Module) (y : A) → In y (made_from f i ms) → (n : ℕ) × (m : Module) × (slice_get ms n ≡ Some m) × In y (f (i + n) m)
  made_some i [] y here = absurd here
  made_some i (x ∷ ms) y here = go (In-append_cases y (f i x) (made_from f (suc i) ms) here) (made_some (suc i) ms y)
    where
      go : In y (f i x) ⊎ In y (made_from f (suc i) ms) → (In y (made_from f (suc i) ms) → (n : ℕ) × (m : Module) × (slice_get ms n ≡ Some m) × In y (f (suc i + n) m))
          → (n : ℕ) × (m : Module) × (slice_get (x ∷ ms) n ≡ Some m) × In y (f (i + n) m)
      go (inl first) rest =
          let e : i ≡ i + 0 = omega arith in
          (0, x, refl, subst (λ k. In y (f k x)) e first)
      go (inr later) rest =
          let found = rest later in
          let e : suc i + found.0 ≡ i + suc found.0 = omega arith in
          (suc found.0, found.1, found.2, subst (λ k. In y (f k found.1)) e found.3)

  pub some_made : (i : ℕ) (ms : List Module) (y : A) (n k : ℕ) (m : Module) → k ≡ i + n → slice_get ms n ≡ Some m → In y (f k m) → In y (made_from f i ms)
  some_made i [] y n k m e is here = cc
  some_made i (x ∷ ms) y zero k m e is here =
      let first : k ≡ i = omega arith in
      let same : m ≡ x = cc in
      In-append_left y (f i x) (made_from f (suc i) ms) (subst (λ z. In y (f i z)) same (subst (λ n. In y (f n m)) first here))
  some_made i (x ∷ ms) y (suc n) k m e is here = In-append_right y (f i x) (made_from f (suc i) ms) (some_made (suc i) ms y n k m (omega arith) is here)

-- ---- the modules of a design in code, one after another

pub modules_past : (ms : List StoredModule) (n : ℕ) → length ms ≤ n → take n (map numbered_module ms) ≡ map numbered_module ms
modules_past ms n past = let same : length (map numbered_module ms) ≡ length ms = length-map ms numbered_module in take_all n (map numbered_module ms) (omega arith)

module _ {A : Type 0} (f : ℕ → Module → List A) (ms : List StoredModule) where
  -- of one module more
  pub modules_more : (n : ℕ) (m : StoredModule) → Some m ≡ slice_get ms n
      → made_from f 0 (take (n + 1) (map numbered_module ms)) ≡ made_from f 0 (take n (map numbered_module ms)) ++ f n (numbered_module m)
  modules_more n m is =
      let next : n + 1 ≡ suc n = omega arith in
      ap (λ k. made_from f 0 (take k (map numbered_module ms))) next
      ∙ made_more f 0 n n (map numbered_module ms) (numbered_module m) (omega arith) (stored_at ms n m is)

  pub modules_all : (n : ℕ) → length ms ≤ n → made_from f 0 (take n (map numbered_module ms)) ≡ made_from f 0 (map numbered_module ms)
  modules_all n past = ap (made_from f 0) (modules_past ms n past)
