-- An operation that is taken out, once another value stands for its first result.
use Rattle.std.proofs.Common.{◌≡◌, ℕ, zero, suc, Bool, true, false, cond, nat_eq, ◌&&◌, List, [], ◌∷◌, map, Option, Some, None, refl, sym, ap, ap₂, ◌∙◌}
use Rattle.std.specs.Prelude.{Contains, remove}
use Rattle.std.proofs.lemmas.Bool.{eqb-true, eqb-false}
use Rattle.hw_model.specs.Design.{Op, Ref}
use Rattle.hw_model.specs.Design.Ref.{port, result, undefined}
use Rattle.ir_store.specs.declared.operation.OpId.{OpId}
use Rattle.ir_store.specs.declared.operation.Value.{Value}
use Rattle.ir_store.specs.declared.operation.Value.TheVariants.{Result}
use Rattle.ir_store.specs.BodyOps.{BodyOp, ids_in, taken_out, all_replaced, IsUnused}
use Rattle.ir_store.specs.Live.{AreLive}
use Rattle.ir_store.specs.Numbered.{position_of, ref_by, ops_by_position}
use Rattle.ir_store.specs.Positions.{retarget, result_at, pulled_ref, without_op, replaced_ref}
use Rattle.ir_store.proofs.Living.{ids-all_replaced}
use Rattle.ir_store.proofs.Numbering.{numbered-taken_out, numbered-all_replaced}
use Rattle.edit_laws.specs.Laws.{down, ref_after_erase, without, erase_op}
use Rattle.edit_laws.proofs.Positions.{down_same, down_none}
use Rattle.body_edits.proofs.Positions.{down-erase}

-- ---- lists

module _ {A : Type 0} (f g h : A → A) (same : (x : A) → f (g x) ≡ h x) where
  pub map_after_map : (xs : List A) → map f (map g xs) ≡ map h xs
  map_after_map [] = refl
  map_after_map (x ∷ xs) = ap₂ (λ y ys. y ∷ ys) (same x) (map_after_map xs)

  pub map_after_remove : (xs : List A) (i : ℕ) → map f (remove (map g xs) i) ≡ map h (remove xs i)
  map_after_remove [] zero = refl
  map_after_remove [] (suc i) = refl
  map_after_remove (x ∷ xs) zero = map_after_map xs
  map_after_remove (x ∷ xs) (suc i) = ap₂ (λ y ys. y ∷ ys) (same x) (map_after_remove xs i)

-- ---- values

-- a value that stands for the first result, once the operation is gone
pub stand_pulled : (i : ℕ) (x : Ref) → pulled_ref i x ≡ without i undefined x
stand_pulled i (port n) = refl
stand_pulled i undefined = refl
stand_pulled i (result j k) = ap (λ z. result_at z k) (sym (down-erase i j)) ∙ go (down i j) k
  where
    go : (z : Option ℕ) (k : ℕ) → result_at z k ≡ ref_after_erase z undefined k
    go (Some j) k = refl
    go None zero = refl
    go None (suc k) = refl

pub replaced_pulled : (i : ℕ) (x r : Ref) → pulled_ref i (replaced_ref (result i 0) x r) ≡ without i (without i undefined x) r
replaced_pulled i x (port n) = refl
replaced_pulled i x undefined = refl
replaced_pulled i x (result j k) = go (nat_eq i j) (nat_eq 0 k) refl refl
  where
    none : nat_eq i j ≡ true → down i j ≡ None
    none is = ap (down i) (sym (eqb-true i j is)) ∙ down_same i

    further : (k : ℕ) → nat_eq 0 k ≡ false → undefined ≡ ref_after_erase None (without i undefined x) k
    further zero is = absurd (eqb-false 0 0 is refl)
    further (suc k) is = refl

    stays : (z : Option ℕ) → (z ≡ None → ⊥) → result_at z k ≡ ref_after_erase z (without i undefined x) k
    stays (Some j) there = refl
    stays None there = absurd (there refl)

    go : (b c : Bool) → nat_eq i j ≡ b → nat_eq 0 k ≡ c → pulled_ref i (cond (b && c) x (result j k)) ≡ ref_after_erase (down i j) (without i undefined x) k
    go true true is first = stand_pulled i x ∙ sym (ap₂ (λ z n. ref_after_erase z (without i undefined x) n) (none is) (sym (eqb-true 0 k first)))
    go true false is first =
        ap (λ z. result_at z k) (sym (down-erase i j) ∙ none is)
        ∙ further k first
        ∙ sym (ap (λ z. ref_after_erase z (without i undefined x) k) (none is))
    go false c is first =
        ap (λ z. result_at z k) (sym (down-erase i j))
        ∙ stays (down i j) (λ gone. eqb-false i j is (sym (down_none i j gone)))

-- ---- bodies

pub retarget_after : (f g h : Ref → Ref) → ((r : Ref) → f (g r) ≡ h r) → (o : Op) → retarget f (retarget g o) ≡ retarget h o
retarget_after f g h same o = ap (λ rs. record o { operands = rs }) (map_after_map f g h same o.operands)

erase_replaced : (i : ℕ) (x : Ref) (os : List Op) → without_op i (map (retarget (replaced_ref (result i 0) x)) os) ≡ erase_op i x os
erase_replaced i x os =
    map_after_remove (retarget (pulled_ref i)) (retarget (replaced_ref (result i 0) x)) (retarget (without i (without i undefined x)))
    (retarget_after (pulled_ref i) (replaced_ref (result i 0) x) (without i (without i undefined x)) (replaced_pulled i x)) os i

-- the operation taken out, once a value stands for its first result and nothing names another one
pub numbered_erase : (op : OpId) (x : Value) (ops : List BodyOp) → AreLive ops → Contains (ids_in ops) op.index → IsUnused op.index (all_replaced (Result op 0) x ops)
    → ops_by_position (taken_out op.index (all_replaced (Result op 0) x ops))
    ≡ erase_op (position_of (ids_in ops) op.index) (ref_by (position_of (ids_in ops)) x) (ops_by_position ops)
numbered_erase op x ops live there unused =
    numbered-taken_out op.index (all_replaced (Result op 0) x ops) (rw (ids-all_replaced (Result op 0) x ops) there) unused
    ∙ ap₂ (λ ids os. without_op (position_of ids op.index) os) (ids-all_replaced (Result op 0) x ops) (numbered-all_replaced (Result op 0) x ops live there)
    ∙ erase_replaced (position_of (ids_in ops) op.index) (ref_by (position_of (ids_in ops)) x) (ops_by_position ops)
