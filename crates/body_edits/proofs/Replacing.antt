-- An operation with no operands that takes the place of another one and of its first result.
use Rattle.std.proofs.Common.{◌≡◌, ℕ, zero, suc, ◌<◌, List, [], ◌∷◌, length, map, set, Option, Some, None, refl, sym, ap, ap₂, subst, ◌∙◌, inl, inr, arith}
use Rattle.std.specs.Prelude.{All, Contains, insert, remove}
use Rattle.std.proofs.lemmas.List.{length-map}
use Rattle.wiring.specs.Wiring.{In}
use Rattle.hw_model.specs.Design.{Op, Ref}
use Rattle.hw_model.specs.Design.Ref.{port, result, undefined}
use Rattle.ir_store.specs.declared.operation.OpId.{OpId}
use Rattle.ir_store.specs.declared.operation.Value.{Value}
use Rattle.ir_store.specs.declared.operation.Value.TheVariants.{Result}
use Rattle.ir_store.specs.BodyOps.{BodyOp, ids_in, put_before, taken_out, all_replaced, IsUnused}
use Rattle.ir_store.specs.Live.{IsLive, AreLive, HasLive}
use Rattle.ir_store.specs.Numbered.{position_of, ref_by, op_by, ops_by_position}
use Rattle.ir_store.specs.Positions.{retarget, position_after_insert, pushed_ref, with_op}
use Rattle.ir_store.proofs.Living.{added_live, all_none, still_contained, times-put_before}
use Rattle.ir_store.proofs.Numbering.{numbered-put_before}
use Rattle.edit_laws.specs.Laws.{down, ref_after_erase, without, erase_op}
use Rattle.edit_laws.proofs.Positions.{down_same, down_none}
use Rattle.body_edits.specs.Replaceable.{IsNoFurther, HasNoFurther, HaveNoFurther}
use Rattle.body_edits.proofs.Positions.{position_within, position_after, position_before}
use Rattle.body_edits.proofs.Erasing.{numbered_erase}

-- ---- values

down_before : (i j : ℕ) → (j ≡ i → ⊥) → down (suc i) (position_after_insert i j) ≡ Some j
down_before zero zero other = absurd (other refl)
down_before zero (suc j) other = refl
down_before (suc i) zero other = refl
down_before (suc i) (suc j) other = rw (down_before i j (λ same. other (ap suc same))) refl

down_next : (i : ℕ) → down (suc i) i ≡ Some i
down_next zero = refl
down_next (suc i) = rw (down_next i) refl

after_same : (i : ℕ) → position_after_insert i i ≡ suc i
after_same zero = refl
after_same (suc i) = ap suc (after_same i)

-- a value is as before once an operation was put in at its position, and the one after it is gone
kept : (i : ℕ) (r : Ref) → IsNoFurther i r → without (suc i) (without (suc i) undefined (result i 0)) (pushed_ref i r) ≡ r
kept i (port n) none = refl
kept i undefined none = refl
kept i (result j k) none = go (down i j) refl k none
  where
    stands : without (suc i) undefined (result i 0) ≡ result i 0
    stands = ap (λ z. ref_after_erase z undefined 0) (down_next i)

    at_it : down i j ≡ None → down (suc i) (position_after_insert i j) ≡ None
    at_it gone = ap (down (suc i)) (ap (position_after_insert i) (down_none i j gone) ∙ after_same i) ∙ down_same (suc i)

    first : (k : ℕ) → j ≡ i → IsNoFurther i (result j k) → ref_after_erase None (result i 0) k ≡ result j k
    first zero same none = ap (λ n. result n 0) (sym same)
    first (suc k) same none = absurd (none k (ap (λ n. result n (suc k)) same))

    other : (z : Option ℕ) → (j' : ℕ) → z ≡ Some j' → down i j ≡ z → j ≡ i → ⊥
    other z j' is down_is same =
        let clash : None ≡ Some j' = sym (down_same i) ∙ ap (down i) (sym same) ∙ down_is ∙ is in cc

    go : (z : Option ℕ) → down i j ≡ z → (k : ℕ) → IsNoFurther i (result j k)
        → ref_after_erase (down (suc i) (position_after_insert i j)) (without (suc i) undefined (result i 0)) k ≡ result j k
    go None gone k none =
        ap₂ (λ z x. ref_after_erase z x k) (at_it gone) stands ∙ first k (down_none i j gone) none
    go (Some j') is k none =
        ap (λ z. ref_after_erase z (without (suc i) undefined (result i 0)) k) (down_before i j (other (Some j') j' refl is))

-- ---- lists

module _ {A : Type 0} (f g : A → A) (P : A → Type 0) (same : (x : A) → P x → f (g x) ≡ x) where
  back : (xs : List A) → ((x : A) → In x xs → P x) → map f (map g xs) ≡ xs
  back [] all = refl
  back (x ∷ xs) all = ap₂ (λ y ys. y ∷ ys) (same x (all x (inl refl))) (back xs (λ y here. all y (inr here)))

  put_in_place : (xs : List A) (i : ℕ) (c : A) → i < length xs → ((x : A) → In x xs → P x) → P c
      → map f (remove (insert (map g xs) i (g c)) (suc i)) ≡ set xs i c
  put_in_place [] i c within all new = absurd (omega (arith, within))
  put_in_place (x ∷ xs) zero c within all new = ap₂ (λ y ys. y ∷ ys) (same c new) (back xs (λ y here. all y (inr here)))
  put_in_place (x ∷ xs) (suc i) c within all new =
      ap₂ (λ y ys. y ∷ ys) (same x (all x (inl refl))) (put_in_place xs i c (omega (arith, within)) (λ y here. all y (inr here)) new)

kept_all : (i : ℕ) (rs : List Ref) → ((r : Ref) → In r rs → IsNoFurther i r)
    → map (without (suc i) (without (suc i) undefined (result i 0))) (map (pushed_ref i) rs) ≡ rs
kept_all i [] none = refl
kept_all i (r ∷ rs) none = ap₂ (λ y ys. y ∷ ys) (kept i r (none r (inl refl))) (kept_all i rs (λ q here. none q (inr here)))

-- ---- bodies

pub erase_put : (i : ℕ) (c : Op) (os : List Op) → i < length os → HaveNoFurther i os → HasNoFurther i c → erase_op (suc i) (result i 0) (with_op i c os) ≡ set os i c
erase_put i c os within none new =
    put_in_place (retarget (without (suc i) (without (suc i) undefined (result i 0)))) (retarget (pushed_ref i)) (HasNoFurther i)
    (λ o all. ap (λ rs. record o { operands = rs }) (kept_all i o.operands all)) os i c within none new

-- an operation put before another one, whose first result it then stands for, and which goes
pub numbered_in_place : (op id : OpId) (o : BodyOp) (ops : List BodyOp) → AreLive ops → Contains (ids_in ops) op.index → o.id ≡ id.index → HasLive (ids_in ops) o
    → (Contains (ids_in ops) id.index → ⊥) → HaveNoFurther (position_of (ids_in ops) op.index) (ops_by_position ops)
    → HasNoFurther (position_of (ids_in ops) op.index) (op_by (position_of (ids_in ops)) o)
    → IsUnused op.index (all_replaced (Result op 0) (Result id 0) (put_before (Some op) o ops))
    → ops_by_position (taken_out op.index (all_replaced (Result op 0) (Result id 0) (put_before (Some op) o ops)))
    ≡ set (ops_by_position ops) (position_of (ids_in ops) op.index) (op_by (position_of (ids_in ops)) o)
numbered_in_place op id o ops live there is own fresh further new unused =
    numbered_erase op (Result id 0) (put_before (Some op) o ops) (added_live (Some op) o ops live own) still unused
    ∙ ap₂ (λ i x. erase_op i x (ops_by_position (put_before (Some op) o ops))) (position_after op o ops there other) position
    ∙ ap (erase_op (suc (position_of (ids_in ops) op.index)) (result (position_of (ids_in ops) op.index) 0)) (numbered-put_before op o ops live own there unknown)
    ∙ erase_put (position_of (ids_in ops) op.index) (op_by (position_of (ids_in ops)) o) (ops_by_position ops) within further new
  where
    unknown : Contains (ids_in ops) o.id → ⊥
    unknown here = fresh (subst (Contains (ids_in ops)) is here)

    other : o.id ≡ op.index → ⊥
    other same = unknown (subst (Contains (ids_in ops)) (sym same) there)

    still : Contains (ids_in (put_before (Some op) o ops)) op.index
    still =
        still_contained (ids_in ops) (ids_in (put_before (Some op) o ops)) (λ v. omega (arith, times-put_before v (Some op) o ops)) op.index there

    position : ref_by (position_of (ids_in (put_before (Some op) o ops))) (Result id 0) ≡ result (position_of (ids_in ops) op.index) 0
    position = ap (λ n. result (position_of (ids_in (put_before (Some op) o ops)) n) 0) (sym is) ∙ ap (λ n. result n 0) (position_before op o ops unknown)

    within : position_of (ids_in ops) op.index < length (ops_by_position ops)
    within =
        let below = position_within (ids_in ops) op.index there in
        let many = length-map ops (λ (p : BodyOp). p.id) in
        let same = length-map ops (op_by (position_of (ids_in ops))) in
        omega (arith, below, many, same)

-- one without operands
pub numbered_number : (op id : OpId) (o : BodyOp) (ops : List BodyOp) → AreLive ops → Contains (ids_in ops) op.index → o.id ≡ id.index → o.operands ≡ []
    → (Contains (ids_in ops) id.index → ⊥) → HaveNoFurther (position_of (ids_in ops) op.index) (ops_by_position ops)
    → IsUnused op.index (all_replaced (Result op 0) (Result id 0) (put_before (Some op) o ops))
    → ops_by_position (taken_out op.index (all_replaced (Result op 0) (Result id 0) (put_before (Some op) o ops)))
    ≡ set (ops_by_position ops) (position_of (ids_in ops) op.index) (op_by (position_of (ids_in ops)) o)
numbered_number op id o ops live there is none fresh further unused =
    numbered_in_place op id o ops live there is (subst (All (IsLive (ids_in ops))) (sym none) (all_none (IsLive (ids_in ops)))) fresh further
    (λ r here. absurd (subst (λ (vs : List Value). In r (map (ref_by (position_of (ids_in ops))) vs)) none here)) unused
