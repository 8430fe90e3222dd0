-- Positions of operations by ids, and after an operation is put in or taken out.
use Rattle.std.proofs.Common.{◌≡◌, ℕ, zero, suc, ◌<◌, Bool, true, false, cond, nat_eq, List, [], ◌∷◌, length, map, Some, slice_get, refl, ap, ◌∙◌, arith, eq-eqb, None, option_map}
use Rattle.std.specs.Prelude.{Contains}
use Rattle.std.proofs.lemmas.Bool.{eqb-true, eqb-false}
use Rattle.ir_store.specs.declared.operation.OpId.{OpId}
use Rattle.ir_store.specs.BodyOps.{BodyOp, ids_in, op_at, put_before}
use Rattle.ir_store.specs.Numbered.{position_of}
use Rattle.ir_store.specs.Positions.{position_after_erase}
use Rattle.edit_laws.specs.Laws.{down}

-- the two definitions of where a position is after an edit are one
pub down-erase : (i j : ℕ) → down i j ≡ position_after_erase i j
down-erase zero zero = refl
down-erase zero (suc j) = refl
down-erase (suc i) zero = refl
down-erase (suc i) (suc j) = ap (option_map suc) (down-erase i j)

-- ---- ids

-- an id whose position is one of the ids is there
pub position_there : (ids : List ℕ) (id : ℕ) → position_of ids id < length ids → Contains ids id
position_there [] id h = absurd (omega (arith, h))
position_there (i ∷ ids) id h = go (nat_eq i id) refl h (position_there ids id)
  where
    go : (b : Bool) → nat_eq i id ≡ b → cond b 0 (suc (position_of ids id)) < suc (length ids) → (position_of ids id < length ids → Contains ids id) → Contains (i ∷ ids) id
    go true is h r = (zero, omega arith, eqb-true i id is)
    go false is h r = let q = r (omega (arith, h)) in (suc q.0, omega (arith, q.1), q.2)

-- the position of an id that is there is one of the ids
pub position_within : (ids : List ℕ) (id : ℕ) → Contains ids id → position_of ids id < length ids
position_within [] id (k, l, e) = absurd (omega (arith, l))
position_within (i ∷ ids) id h = go (nat_eq i id) refl h (position_within ids id)
  where
    go : (b : Bool) → nat_eq i id ≡ b → Contains (i ∷ ids) id → (Contains ids id → position_of ids id < length ids) → cond b 0 (suc (position_of ids id)) < suc (length ids)
    go true is h r = omega arith
    go false is (zero, l, e) r = absurd (eqb-false i id is e)
    go false is (suc k, l, e) r = let q = r (k, omega (arith, l), e) in omega (arith, q)

-- the operation of an id stands at its position
pub op_at_position : {A : Type 0} (f : BodyOp → A) (id : ℕ) (ops : List BodyOp) (o : BodyOp) → op_at ops id ≡ Some o → slice_get (map f ops) (position_of (ids_in ops) id) ≡ Some (f o)
op_at_position f id [] o is = cc
op_at_position f id (p ∷ ops) o is = go (nat_eq p.id id) is (op_at_position f id ops o)
  where
    go : (b : Bool) → cond b (Some p) (op_at ops id) ≡ Some o → (op_at ops id ≡ Some o → slice_get (map f ops) (position_of (ids_in ops) id) ≡ Some (f o))
        → slice_get (f p ∷ map f ops) (cond b 0 (suc (position_of (ids_in ops) id))) ≡ Some (f o)
    go true is r = let same : p ≡ o = cc in ap (λ x. Some (f x)) same
    go false is r = r is

-- ---- an operation put before another one

-- the other one is then one position further
pub position_after : (b : OpId) (o : BodyOp) (ops : List BodyOp) → Contains (ids_in ops) b.index → (o.id ≡ b.index → ⊥)
    → position_of (ids_in (put_before (Some b) o ops)) b.index ≡ suc (position_of (ids_in ops) b.index)
position_after b o [] (k, l, e) other = absurd (omega (arith, l))
position_after b o (p ∷ ops) there other = go (nat_eq p.id b.index) refl there (position_after b o ops)
  where
    not_it : nat_eq o.id b.index ≡ false
    not_it = test (nat_eq o.id b.index) refl
      where
        test : (t : Bool) → nat_eq o.id b.index ≡ t → nat_eq o.id b.index ≡ false
        test true is = absurd (other (eqb-true o.id b.index is))
        test false is = is

    go : (t : Bool) → nat_eq p.id b.index ≡ t → Contains (p.id ∷ ids_in ops) b.index
        → (Contains (ids_in ops) b.index → (o.id ≡ b.index → ⊥) → position_of (ids_in (put_before (Some b) o ops)) b.index ≡ suc (position_of (ids_in ops) b.index))
        → position_of (ids_in (cond t (o ∷ p ∷ ops) (p ∷ put_before (Some b) o ops))) b.index ≡ suc (cond t 0 (suc (position_of (ids_in ops) b.index)))
    go true is there r = rw (not_it, is) refl
    go false is (zero, l, e) r = absurd (eqb-false p.id b.index is e)
    go false is (suc k, l, e) r = rw is (ap suc (r (k, omega (arith, l), e) other))

-- it is where the other one was
pub position_before : (b : OpId) (o : BodyOp) (ops : List BodyOp) → (Contains (ids_in ops) o.id → ⊥)
    → position_of (ids_in (put_before (Some b) o ops)) o.id ≡ position_of (ids_in ops) b.index
position_before b o [] fresh = ap (λ t. cond t 0 1) (eq-eqb o.id o.id refl)
position_before b o (p ∷ ops) fresh = go (nat_eq p.id b.index) (position_before b o ops (λ c. fresh (suc c.0, omega (arith, c.1), c.2)))
  where
    not_it : nat_eq p.id o.id ≡ false
    not_it = test (nat_eq p.id o.id) refl
      where
        test : (t : Bool) → nat_eq p.id o.id ≡ t → nat_eq p.id o.id ≡ false
        test true is = absurd (fresh (zero, omega arith, eqb-true p.id o.id is))
        test false is = is

    go : (t : Bool) → position_of (ids_in (put_before (Some b) o ops)) o.id ≡ position_of (ids_in ops) b.index
        → position_of (ids_in (cond t (o ∷ p ∷ ops) (p ∷ put_before (Some b) o ops))) o.id ≡ cond t 0 (suc (position_of (ids_in ops) b.index))
    go true r = ap (λ t. cond t 0 (suc (position_of (ids_in (p ∷ ops)) o.id))) (eq-eqb o.id o.id refl)
    go false r = ap (λ t. cond t 0 (suc (position_of (ids_in (put_before (Some b) o ops)) o.id))) not_it ∙ ap suc r

-- what stands at the position of an id that is not there
pub none_at_position : {A : Type 0} (f : BodyOp → A) (id : ℕ) (ops : List BodyOp) → (Contains (ids_in ops) id → ⊥) → slice_get (map f ops) (position_of (ids_in ops) id) ≡ None
none_at_position f id [] other = refl
none_at_position f id (p ∷ ops) other = go (nat_eq p.id id) refl (none_at_position f id ops (λ c. other (suc c.0, omega (arith, c.1), c.2)))
  where
    go : (b : Bool) → nat_eq p.id id ≡ b → slice_get (map f ops) (position_of (ids_in ops) id) ≡ None → slice_get (f p ∷ map f ops) (cond b 0 (suc (position_of (ids_in ops) id))) ≡ None
    go true is r = absurd (other (zero, omega arith, eqb-true p.id id is))
    go false is r = r
