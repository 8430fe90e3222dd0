-- A table of the positions of distinct ids.
use Rattle.std.proofs.Common.{◌≡◌, ◌⊎◌, ℕ, zero, suc, ◌+◌, ◌<◌, ◌≤◌, Bool, true, false, cond, eqb, nat_eq, List, [], ◌∷◌, length, map, get_or, set, replicate, slice_get, Some, None, option_map, refl}
use Rattle.std.proofs.Common.{sym, ap, ◌∙◌, inl, inr, arith, length-set}
use Rattle.std.proofs.lemmas.Bool.{eqb-true, eqb-false, ltb-true, ltb-false}
use Rattle.std.specs.Prelude.{nat_lt, min}
use Rattle.ir_store.specs.Bodies.{op_id}
use Rattle.ir_store.specs.Numbered.{position_of}
use Rattle.std.proofs.lemmas.Option.{slice_get-map, slice_get_within, slice_get-get_or}
use Rattle.wiring.proofs.Lists.{slice_get-set_same, slice_get-set_other}
use Rattle.linked_lists.specs.Ids.{times}
use Rattle.ir_store.specs.Live.{AreDistinct}
use Rattle.ir_store.specs.declared.operation.OpId.{OpId}
use Rattle.body_index.specs.PositionTables.{ArePositions}

-- the positions of the first p ids stand in the table, and no others
pub record IsTable (ids : List ℕ) (p : ℕ) (positions : List ℕ) : Type 0 where
  pub room : (j q : ℕ) → slice_get ids j ≡ Some q → q < length positions
  pub known : (j q : ℕ) → j < p → slice_get ids j ≡ Some q → slice_get positions q ≡ Some j
  pub real : (q j : ℕ) → slice_get positions q ≡ Some j → j < length ids → slice_get ids j ≡ Some q

counted_once : (ids : List ℕ) (q j : ℕ) → slice_get ids j ≡ Some q → 0 < times q ids
counted_once [] q j at = cc
counted_once (i ∷ ids) q zero at = go (nat_eq i q) refl
  where
    go : (b : Bool) → nat_eq i q ≡ b → 0 < cond b (suc (times q ids)) (times q ids)
    go true same = omega arith
    go false other = let e : i ≡ q = cc in absurd (eqb-false i q other e)
counted_once (i ∷ ids) q (suc j) at = go (nat_eq i q) (counted_once ids q j at)
  where
    go : (b : Bool) → 0 < times q ids → 0 < cond b (suc (times q ids)) (times q ids)
    go true more = omega arith
    go false more = more

-- an id stands at one position
pub one_position : (ids : List ℕ) (q i j : ℕ) → times q ids ≤ 1 → slice_get ids i ≡ Some q → slice_get ids j ≡ Some q → i ≡ j
one_position [] q i j once at to = cc
one_position (x ∷ ids) q zero zero once at to = refl
one_position (x ∷ ids) q zero (suc j) once at to = absurd (go (nat_eq x q) refl once (counted_once ids q j to))
  where
    go : (b : Bool) → nat_eq x q ≡ b → cond b (suc (times q ids)) (times q ids) ≤ 1 → 0 < times q ids → ⊥
    go true same few more = omega arith
    go false other few more = let e : x ≡ q = cc in eqb-false x q other e
one_position (x ∷ ids) q (suc i) zero once at to = absurd (go (nat_eq x q) refl once (counted_once ids q i at))
  where
    go : (b : Bool) → nat_eq x q ≡ b → cond b (suc (times q ids)) (times q ids) ≤ 1 → 0 < times q ids → ⊥
    go true same few more = omega arith
    go false other few more = let e : x ≡ q = cc in eqb-false x q other e
one_position (x ∷ ids) q (suc i) (suc j) once at to = ap suc (one_position ids q i j (fewer (nat_eq x q) once) at to)
  where
    fewer : (b : Bool) → cond b (suc (times q ids)) (times q ids) ≤ 1 → times q ids ≤ 1
    fewer true few = omega arith
    fewer false few = few

pub table_none : (ids : List ℕ) (n : ℕ) (positions : List ℕ) → positions ≡ replicate n (length ids) → ((j q : ℕ) → slice_get ids j ≡ Some q → q < n) → length positions ≡ n → IsTable ids 0 positions
table_none ids n positions is room size = record {
  room = λ j q at. (let bound : q < n = room j q at in omega arith);
  known = λ j q below at. absurd (omega arith);
  real = λ q j at below. absurd (never n q j (sym (ap (λ xs. slice_get xs q) is) ∙ at) below);
}
  where
    never : (n q j : ℕ) → slice_get (replicate n (length ids)) q ≡ Some j → j < length ids → ⊥
    never zero q j at below = cc
    never (suc n) zero j at below = let e : length ids ≡ j = cc in omega arith
    never (suc n) (suc q) j at below = never n q j at below

pub table_more : (ids : List ℕ) (p q : ℕ) (positions : List ℕ) → AreDistinct ids → slice_get ids p ≡ Some q → IsTable ids p positions → IsTable ids (p + 1) (set positions q p)
table_more ids p q positions distinct here table = record {
  room = λ j r at. (let bound : r < length positions = table.room j r at in let size : length (set positions q p) ≡ length positions = length-set positions q p in omega arith);
  known = λ j r below at. known j r below at (eqb r q) refl;
  real = λ r j at below. real r j at below (eqb r q) refl;
}
  where
    inside : q < length positions
    inside = table.room p q here

    known : (j r : ℕ) → j < p + 1 → slice_get ids j ≡ Some r → (b : Bool) → eqb r q ≡ b → slice_get (set positions q p) r ≡ Some j
    known j r below at true same =
        let e : r ≡ q = eqb-true r q same in
        let there : p ≡ j = one_position ids r p j (distinct r) (here ∙ ap Some (sym e)) at in
        ap (slice_get (set positions q p)) e ∙ slice_get-set_same positions q p inside ∙ ap Some there
    known j r below at false other =
        slice_get-set_other positions q r p (eqb-false r q other) ∙ table.known j r (lower (grind arith)) at
      where
        lower : (j < p) ⊎ (j ≡ p) → j < p
        lower (inl less) = less
        lower (inr last) = let e : Some q ≡ Some r = sym here ∙ ap (slice_get ids) (sym last) ∙ at in let f : r ≡ q = cc in absurd (eqb-false r q other f)

    real : (r j : ℕ) → slice_get (set positions q p) r ≡ Some j → j < length ids → (b : Bool) → eqb r q ≡ b → slice_get ids j ≡ Some r
    real r j at below true same =
        let e : r ≡ q = eqb-true r q same in
        let f : Some p ≡ Some j = sym (slice_get-set_same positions q p inside) ∙ ap (slice_get (set positions q p)) (sym e) ∙ at in
        let g : p ≡ j = cc in
        ap (slice_get ids) (sym g) ∙ here ∙ ap Some (sym e)
    real r j at below false other = table.real r j (sym (slice_get-set_other positions q r p (eqb-false r q other)) ∙ at) below

pub table_all : (ids : List ℕ) (p : ℕ) (positions : List ℕ) → length ids ≤ p → IsTable ids p positions → ArePositions ids positions
table_all ids p positions whole table = record {
  known = λ j q at. table.known j q (let bound : j < length ids = slice_get_within ids j q at in omega arith) at;
  real = table.real;
}

-- ---- ids in code

abbrev pub indices : List OpId → List ℕ
indices ids = map (λ (i : OpId). i.index) ids

pub index_at : (ids : List OpId) (p : ℕ) (d : OpId) → p < length ids → slice_get (indices ids) p ≡ Some (get_or ids p d).index
index_at ids p d below = slice_get-map (λ (i : OpId). i.index) ids p ∙ ap (option_map (λ (i : OpId). i.index)) (slice_get-get_or ids p d below)

pub size_more : (ids : List OpId) (i n m : ℕ) (d : OpId) → i < length ids → ((j q : ℕ) → j < i → slice_get (indices ids) j ≡ Some q → q < n) → n ≤ m → (get_or ids i d).index < m
    → (j q : ℕ) → j < i + 1 → slice_get (indices ids) j ≡ Some q → q < m
size_more ids i n m d below before more last j q low at = go (grind arith)
  where
    go : (j < i) ⊎ (j ≡ i) → q < m
    go (inl less) = let bound : q < n = before j q less at in omega arith
    go (inr same) = let e : Some (get_or ids i d).index ≡ Some q = sym (index_at ids i d below) ∙ ap (slice_get (indices ids)) (sym same) ∙ at in let f : (get_or ids i d).index ≡ q = cc in omega arith

-- ---- what a table says

indices_of : (xs : List ℕ) → indices (map op_id xs) ≡ xs
indices_of [] = refl
indices_of (x ∷ xs) = ap (λ ys. x ∷ ys) (indices_of xs)

-- the ids in code are those of the body
pub ids_same : (ids : List OpId) (xs : List ℕ) → ids ≡ map op_id xs → indices ids ≡ xs
ids_same ids xs e = ap indices e ∙ indices_of xs

pub position_found : (ids : List ℕ) (q j : ℕ) → times q ids ≤ 1 → slice_get ids j ≡ Some q → position_of ids q ≡ j
position_found [] q j once at = cc
position_found (x ∷ ids) q zero once at = go (nat_eq x q) refl
  where
    go : (b : Bool) → nat_eq x q ≡ b → cond b 0 (suc (position_of ids q)) ≡ 0
    go true is = refl
    go false is = let e : x ≡ q = cc in absurd (eqb-false x q is e)
position_found (x ∷ ids) q (suc j) once at = go (nat_eq x q) refl once (position_found ids q j)
  where
    go : (b : Bool) → nat_eq x q ≡ b → cond b (suc (times q ids)) (times q ids) ≤ 1 → (times q ids ≤ 1 → slice_get ids j ≡ Some q → position_of ids q ≡ j)
        → cond b 0 (suc (position_of ids q)) ≡ suc j
    go true is few rest = let more : 0 < times q ids = counted_once ids q j at in absurd (omega arith)
    go false is few rest = ap suc (rest few at)

pub position_none : (ids : List ℕ) (q : ℕ) → ((j : ℕ) → slice_get ids j ≡ Some q → ⊥) → position_of ids q ≡ length ids
position_none [] q none = refl
position_none (x ∷ ids) q none = go (nat_eq x q) refl (position_none ids q (λ j at. none (suc j) at))
  where
    go : (b : Bool) → nat_eq x q ≡ b → position_of ids q ≡ length ids → cond b 0 (suc (position_of ids q)) ≡ suc (length ids)
    go true is rest = absurd (none 0 (ap Some (eqb-true x q is)))
    go false is rest = ap suc rest

-- a position that the table has
pub position_kept : (ids positions : List ℕ) (q p : ℕ) → AreDistinct ids → ArePositions ids positions → slice_get positions q ≡ Some p → min p (length ids) ≡ position_of ids q
position_kept ids positions q p distinct table at = go (nat_lt p (length ids)) refl
  where
    go : (b : Bool) → nat_lt p (length ids) ≡ b → min p (length ids) ≡ position_of ids q
    go true is =
        let below : p < length ids = ltb-true p (length ids) is in
        let found : position_of ids q ≡ p = position_found ids q p (distinct q) (table.real q p at below) in
        omega arith
    go false is =
        let above : length ids ≤ p = ltb-false p (length ids) is in
        let none : position_of ids q ≡ length ids = position_none ids q (λ j here.
        let same : Some p ≡ Some j = sym at ∙ table.known j q here in
        let e : p ≡ j = cc in
        let bound : j < length ids = slice_get_within ids j q here in omega arith) in
        omega arith

pub position_missing : (ids positions : List ℕ) (q : ℕ) → ArePositions ids positions → slice_get positions q ≡ None → length ids ≡ position_of ids q
position_missing ids positions q table at = sym (position_none ids q (λ j here. let e : None ≡ Some j = sym at ∙ table.known j q here in cc))
