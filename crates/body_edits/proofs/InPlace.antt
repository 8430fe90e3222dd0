-- A new operation that is put in the place of another one, by ids and by positions.
use Rattle.std.proofs.Common.{◌≡◌, zero, suc, Bool, true, false, cond, nat_eq, List, [], ◌∷◌, set, Some, refl, sym, ap, subst, ◌∙◌, arith}
use Rattle.std.specs.Prelude.{All, Contains}
use Rattle.std.proofs.lemmas.Bool.{eqb-true, eqb-false}
use Rattle.wiring.proofs.Members.{In-map, All-from_members}
use Rattle.ir_store.specs.declared.body.Body.{Body}
use Rattle.ir_store.specs.declared.operation.OpId.{OpId}
use Rattle.ir_store.specs.declared.operation.NewOp.{NewOp}
use Rattle.ir_store.specs.declared.operation.Value.{Value}
use Rattle.ir_store.specs.declared.operation.Value.TheVariants.{Port, Result, Undefined}
use Rattle.ir_store.specs.Bodies.{ids_of, ops_of}
use Rattle.ir_store.specs.BodyOps.{BodyOp, ids_in, as_new, put_before, taken_out, all_replaced, IsUnused}
use Rattle.ir_store.specs.Live.{IsLive, HasLive, AreLive}
use Rattle.ir_store.specs.Numbered.{position_of, ops_by_position}
use Rattle.ir_store.proofs.Living.{all_with, first_of_all, rest_of_all, ids-all_replaced, still_contained, times-put_before, added_live, replaced_live, erased_live}
use Rattle.body_edits.specs.FitBodies.{IsOfFit}
use Rattle.body_edits.specs.Replaceable.{HasNoFurther, HaveNoFurther}
use Rattle.body_edits.specs.Replaced.{new_seen, IsNamed, HasNamed, IsReplaced}
use Rattle.body_edits.specs.Views.{HasOp, body_ops, position_in, value_ref}
use Rattle.body_edits.proofs.FitOps.{fit_live, operand_within}
use Rattle.body_edits.proofs.Naming.{IsFirstIf, AreFirstIf, unused_replaced, first_values, first_named}
use Rattle.body_edits.proofs.Positions.{position_there}
use Rattle.body_edits.proofs.Replacing.{numbered_in_place}

-- ---- ids

-- the new id stands in the place of the one that goes
ids_set : (b : OpId) (o : BodyOp) (from to : Value) (ops : List BodyOp) → Contains (ids_in ops) b.index → (o.id ≡ b.index → ⊥)
    → ids_in (taken_out b.index (all_replaced from to (put_before (Some b) o ops))) ≡ set (ids_in ops) (position_of (ids_in ops) b.index) o.id
ids_set b o from to [] (k, l, e) other = absurd (omega (arith, l))
ids_set b o from to (p ∷ ops) there other = go (nat_eq p.id b.index) refl there (ids_set b o from to ops)
  where
    not_it : nat_eq o.id b.index ≡ false
    not_it = test (nat_eq o.id b.index) refl
      where
        test : (t : Bool) → nat_eq o.id b.index ≡ t → nat_eq o.id b.index ≡ false
        test true is = absurd (other (eqb-true o.id b.index is))
        test false is = is

    go : (t : Bool) → nat_eq p.id b.index ≡ t → Contains (p.id ∷ ids_in ops) b.index
        → (Contains (ids_in ops) b.index → (o.id ≡ b.index → ⊥)
        → ids_in (taken_out b.index (all_replaced from to (put_before (Some b) o ops))) ≡ set (ids_in ops) (position_of (ids_in ops) b.index) o.id)
        → ids_in (taken_out b.index (all_replaced from to (cond t (o ∷ p ∷ ops) (p ∷ put_before (Some b) o ops))))
        ≡ set (p.id ∷ ids_in ops) (cond t 0 (suc (position_of (ids_in ops) b.index))) o.id
    go true is there r = rw (not_it, is) (ap (λ ids. o.id ∷ ids) (ids-all_replaced from to ops))
    go false is (zero, l, e) r = absurd (eqb-false p.id b.index is e)
    go false is (suc k, l, e) r = rw is (ap (λ ids. p.id ∷ ids) (r (k, omega (arith, l), e) other))

-- ---- operands

-- where operands are first results, they are so once an operation of such operands is put in
first_put : (op : OpId) (o : BodyOp) (ops : List BodyOp) → All (IsFirstIf op) o.operands → AreFirstIf op ops → AreFirstIf op (put_before (Some op) o ops)
first_put op o [] own first = all_with (λ (p : BodyOp). All (IsFirstIf op) p.operands) o [] own first
first_put op o (p ∷ ops) own first = go (nat_eq p.id op.index) (first_put op o ops own (rest_of_all (λ (p : BodyOp). All (IsFirstIf op) p.operands) p ops first))
  where
    go : (t : Bool) → AreFirstIf op (put_before (Some op) o ops) → AreFirstIf op (cond t (o ∷ p ∷ ops) (p ∷ put_before (Some op) o ops))
    go true r = all_with (λ (p : BodyOp). All (IsFirstIf op) p.operands) o (p ∷ ops) own first
    go false r =
        all_with (λ (p : BodyOp). All (IsFirstIf op) p.operands) p (put_before (Some op) o ops)
        (first_of_all (λ (p : BodyOp). All (IsFirstIf op) p.operands) p ops first) r

-- a value that is an operand of the body by positions is one of an operation that is there
named_live : (b : Body) → IsOfFit b → (v : Value) → IsNamed (body_ops b) (value_ref b v) → IsLive (ids_of b) v
unfolding body_ops value_ref
named_live b of (Port n) named = tt
named_live b of Undefined named = tt
named_live b of (Result id k) named =
    let below = operand_within b of (position_of (ids_of b) id.index) k named in
    position_there (ids_of b) id.index below

-- ---- bodies

module _ (b : Body) (op id : OpId) (new : NewOp) (of : IsOfFit b) (there : HasOp b op) (named : HasNamed (body_ops b) (new_seen b new))
    (fresh : Contains (ids_of b) id.index → ⊥) (alone : HaveNoFurther (position_in b op) (body_ops b)) where
  other : id.index ≡ op.index → ⊥
  other same = fresh (subst (Contains (ids_of b)) (sym same) there)

  own_live : HasLive (ids_of b) (as_new id new)
  own_live = All-from_members (IsLive (ids_of b)) new.operands.items (λ v here. named_live b of v (named (value_ref b v) (In-map (value_ref b) v new.operands.items here)))

  own_further : HasNoFurther (position_in b op) (new_seen b new)
  own_further r here = let is = named r here in alone is.op is.there r is.named

  put_live : AreLive (put_before (Some op) (as_new id new) (ops_of b))
  put_live = added_live (Some op) (as_new id new) (ops_of b) (fit_live b of) own_live

  -- nothing names the operation once the new one stands for it
  pub unused_in_place : IsUnused op.index (all_replaced (Result op 0) (Result id 0) (put_before (Some op) (as_new id new) (ops_of b)))
  unfolding body_ops position_in value_ref
  unused_in_place =
      unused_replaced op (Result id 0) (put_before (Some op) (as_new id new) (ops_of b)) (go (nat_eq id.index op.index) refl)
      (first_put op (as_new id new) (ops_of b) (first_values op (ids_of b) new.operands.items own_further) (first_named op (ops_of b) alone))
    where
      go : (t : Bool) → nat_eq id.index op.index ≡ t → t ≡ false
      go true is = absurd (other (eqb-true id.index op.index is))
      go false is = refl

  -- it still is there
  pub still_in_place : (b' : Body) → ops_of b' ≡ all_replaced (Result op 0) (Result id 0) (put_before (Some op) (as_new id new) (ops_of b)) → HasOp b' op
  still_in_place b' is =
      subst (λ ids. Contains ids op.index) (sym (ap ids_in is ∙ ids-all_replaced (Result op 0) (Result id 0) (put_before (Some op) (as_new id new) (ops_of b))))
      (still_contained (ids_of b) (ids_in (put_before (Some op) (as_new id new) (ops_of b)))
      (λ v. omega (arith, times-put_before v (Some op) (as_new id new) (ops_of b))) op.index there)

  -- it goes, and the new one stands in its place
  pub put_replaced : (b' : Body) → ops_of b' ≡ taken_out op.index (all_replaced (Result op 0) (Result id 0) (put_before (Some op) (as_new id new) (ops_of b)))
      → IsReplaced b b' (position_in b op) (new_seen b new)
  unfolding body_ops position_in value_ref
  put_replaced b' is = record {
    ops = ap ops_by_position is
        ∙ numbered_in_place op id (as_new id new) (ops_of b) (fit_live b of) there refl own_live fresh alone own_further unused_in_place;
    fresh = id.index;
    is_fresh = fresh;
    ids = ap ids_in is ∙ ids_set op (as_new id new) (Result op 0) (Result id 0) (ops_of b) there other;
  }

  -- the operands then are those of operations that are there
  pub replaced_is_live : (b' : Body) → Contains (ids_in (put_before (Some op) (as_new id new) (ops_of b))) id.index
      → ops_of b' ≡ taken_out op.index (all_replaced (Result op 0) (Result id 0) (put_before (Some op) (as_new id new) (ops_of b))) → AreLive (ops_of b')
  replaced_is_live b' here is =
      subst AreLive (sym is)
      (erased_live op.index (all_replaced (Result op 0) (Result id 0) (put_before (Some op) (as_new id new) (ops_of b)))
      (replaced_live (Result op 0) (Result id 0) (put_before (Some op) (as_new id new) (ops_of b)) here put_live) unused_in_place)
