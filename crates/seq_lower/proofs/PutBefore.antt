-- An operation put before another one, by ids and by positions.
use Rattle.std.proofs.Common.{◌≡◌, ◌⊎◌, ℕ, zero, suc, ◌+◌, ◌≤◌, Bool, true, false, cond, nat_eq, List, [], ◌∷◌, length, map, Some, refl, sym, ap, ap₂, subst, ◌∙◌, inl, inr, arith}
use Rattle.std.specs.Prelude.{Contains, insert}
use Rattle.std.proofs.lemmas.Bool.{eqb-true}
use Rattle.wiring.specs.Wiring.{In}
use Rattle.wiring.proofs.Edits.{In-insert_cases, length-insert_suc}
use Rattle.wiring.proofs.Members.{from_In-map, All-member}
use Rattle.hw_model.specs.Design.{Ref, Op}
use Rattle.hw_model.specs.Design.Ref.{port, result, undefined}
use Rattle.edit_laws.specs.Edit.{retarget}
use Rattle.edit_laws.specs.Laws.{up, down, up_ref, insert_op}
use Rattle.edit_laws.proofs.Positions.{down-up}
use Rattle.ir_store.specs.declared.body.Body.{Body}
use Rattle.ir_store.specs.declared.operation.NewOp.{NewOp}
use Rattle.ir_store.specs.declared.operation.OpId.{OpId}
use Rattle.ir_store.specs.declared.operation.Value.{Value}
use Rattle.ir_store.specs.declared.operation.Value.TheVariants.{Port, Result, Undefined}
use Rattle.ir_store.specs.Bodies.{ids_of, ops_of, spare_ops, spare_uses}
use Rattle.ir_store.specs.BodyOps.{ids_in, as_new, put_before}
use Rattle.ir_store.specs.Live.{IsLive, HasLive, AreLive}
use Rattle.ir_store.specs.Numbered.{position_of, op_by, ops_by_position}
use Rattle.ir_store.proofs.Living.{all_through, still_contained, still_live, times-put_before, added_live}
use Rattle.ir_store.proofs.Numbering.{numbered-put_before}
use Rattle.body_edits.specs.Replaceable.{IsNoFurther, HasNoFurther, HaveNoFurther}
use Rattle.body_edits.specs.Views.{body_ops, position_in, value_ref}
use Rattle.body_edits.proofs.OpsPutIn.{put_in_same, ids_put}
use Rattle.body_edits.proofs.Positions.{position_within, position_after, position_before}
use Rattle.seq_lower.specs.Puts.{IsReady, MayBeOperand, MayBeOperands, new_with, IsPutBefore}
use Rattle.seq_lower.proofs.MuxSteps.{up_here}

-- ---- ids

-- where another id then stands
position_insert : (ids : List ℕ) (p x i : ℕ) → p ≤ length ids → (x ≡ i → ⊥) → position_of (insert ids p x) i ≡ up p (position_of ids i)
position_insert ids zero x i within other = go (nat_eq x i) refl
  where
    go : (t : Bool) → nat_eq x i ≡ t → cond t 0 (suc (position_of ids i)) ≡ suc (position_of ids i)
    go true is = absurd (other (eqb-true x i is))
    go false is = refl
position_insert [] (suc p) x i within other = absurd (omega (arith, within))
position_insert (j ∷ ids) (suc p) x i within other = go (nat_eq j i) (position_insert ids p x i (omega (arith, within)) other)
  where
    go : (t : Bool) → position_of (insert ids p x) i ≡ up p (position_of ids i) → cond t 0 (suc (position_of (insert ids p x) i)) ≡ up (suc p) (cond t 0 (suc (position_of ids i)))
    go true rest = refl
    go false rest = ap suc rest

-- ---- further results

up_result : (i k : ℕ) (q : Ref) → up_ref i q ≡ result (suc i) k → q ≡ result i k
up_result i k (port n) is = cc
up_result i k undefined is = cc
up_result i k (result j n) is =
    let number : n ≡ k = cc in
    let position : up i j ≡ suc i = cc in
    let both : Some j ≡ Some i = sym (down-up i j) ∙ ap (down i) (position ∙ sym (up_here i)) ∙ down-up i i in
    let same : j ≡ i = cc in
    ap₂ (λ p m. result p m) same number

pub no_further_up : (i : ℕ) (r : Ref) → IsNoFurther i r → IsNoFurther (suc i) (up_ref i r)
no_further_up i r none k is = none k (up_result i (suc k) r is)

has_none_up : (i : ℕ) (o : Op) → HasNoFurther i o → HasNoFurther (suc i) (retarget (up_ref i) o)
has_none_up i o none r here =
    let from = from_In-map (up_ref i) r o.operands here in
    subst (IsNoFurther (suc i)) (sym from.2) (no_further_up i from.0 (none from.0 from.1))

alone_put : (i : ℕ) (c : Op) (os : List Op) → HaveNoFurther i os → HasNoFurther i c → HaveNoFurther (suc i) (insert_op i c os)
alone_put i c os none own o here = go (In-insert_cases (map (retarget (up_ref i)) os) i (retarget (up_ref i) c) o here)
  where
    go : (o ≡ retarget (up_ref i) c) ⊎ In o (map (retarget (up_ref i)) os) → HasNoFurther (suc i) o
    go (inl is) = subst (HasNoFurther (suc i)) (sym is) (has_none_up i c own)
    go (inr there) =
        let from = from_In-map (retarget (up_ref i)) o os there in
        subst (HasNoFurther (suc i)) (sym from.2) (has_none_up i from.0 (none from.0 from.1))

-- ---- bodies

-- the operands of a new operation are no further results
pub operands_alone : (b : Body) (op : OpId) (new : NewOp) (vs : List Value) → MayBeOperands b op vs → HasNoFurther (position_in b op) (new_with b new vs)
operands_alone b op new vs may r here =
    let from = from_In-map (value_ref b) r vs here in
    subst (IsNoFurther (position_in b op)) (sym from.2) (All-member (MayBeOperand b op) vs may from.0 from.1).alone

module _ (b b1 : Body) (op id : OpId) (new : NewOp) (ready : IsReady b op) (may : MayBeOperands b op new.operands.items) (fresh : Contains (ids_of b) id.index → ⊥)
    (added : ops_of b1 ≡ put_before (Some op) (as_new id new) (ops_of b)) where
  other : id.index ≡ op.index → ⊥
  other same = fresh (subst (Contains (ids_of b)) (sym same) ready.there)

  pub own_live : HasLive (ids_of b) (as_new id new)
  own_live = all_through (MayBeOperand b op) (IsLive (ids_of b)) (λ v m. m.live) new.operands.items may

  still_in : (v : ℕ) → Contains (ids_of b) v → Contains (ids_of b1) v
  still_in v here =
      subst (λ ids. Contains ids v) (sym (ap ids_in added))
      (still_contained (ids_of b) (ids_in (put_before (Some op) (as_new id new) (ops_of b))) (λ w. omega (arith, times-put_before w (Some op) (as_new id new) (ops_of b))) v here)

  put_position : position_in b1 op ≡ suc (position_in b op)
  unfolding position_in
  put_position = ap (λ ops. position_of (ids_in ops) op.index) added ∙ position_after op (as_new id new) (ops_of b) ready.there other

  put_ids : ids_of b1 ≡ insert (ids_of b) (position_in b op) id.index
  unfolding position_in
  put_ids = ap ids_in added ∙ ids_put op (as_new id new) (ops_of b)

  put_ops : body_ops b1 ≡ insert_op (position_in b op) (new_with b new new.operands.items) (body_ops b)
  unfolding body_ops position_in value_ref
  put_ops =
      ap ops_by_position added ∙ numbered-put_before op (as_new id new) (ops_of b) ready.live own_live ready.there fresh
      ∙ put_in_same (position_of (ids_of b) op.index) (op_by (position_of (ids_of b)) (as_new id new)) (ops_by_position (ops_of b))

  put_values : (v : Value) → IsLive (ids_of b) v → value_ref b1 v ≡ up_ref (position_in b op) (value_ref b v)
  unfolding position_in value_ref
  put_values (Port n) live = refl
  put_values Undefined live = refl
  put_values (Result x k) live =
      ap (λ ids. result (position_of ids x.index) k) (ap ids_in added ∙ ids_put op (as_new id new) (ops_of b))
      ∙ ap (λ n. result n k) (position_insert (ids_of b) (position_of (ids_of b) op.index) id.index x.index
      (let inside = position_within (ids_of b) op.index ready.there in omega (arith, inside)) (λ same. fresh (subst (Contains (ids_of b)) (sym same) live)))

  put_own : value_ref b1 (Result id 0) ≡ result (position_in b op) 0
  unfolding position_in value_ref
  put_own = ap (λ n. result n 0) (ap (λ ops. position_of (ids_in ops) id.index) added ∙ position_before op (as_new id new) (ops_of b) fresh)

  put_ready : IsReady b1 op
  put_ready = record {
    there = still_in op.index ready.there;
    live = subst AreLive (sym added) (added_live (Some op) (as_new id new) (ops_of b) ready.live own_live);
    alone = subst (λ i. HaveNoFurther i (body_ops b1)) (sym put_position)
        (subst (HaveNoFurther (suc (position_in b op))) (sym put_ops)
        (alone_put (position_in b op) (new_with b new new.operands.items) (body_ops b) ready.alone (operands_alone b op new new.operands.items may)));
  }

  put_may : (v : Value) → MayBeOperand b op v → MayBeOperand b1 op v
  put_may v m = record {
    live = still_live (ids_of b) (ids_of b1) still_in v m.live;
    alone = subst (λ i. IsNoFurther i (value_ref b1 v)) (sym put_position)
        (subst (IsNoFurther (suc (position_in b op))) (sym (put_values v m.live)) (no_further_up (position_in b op) (value_ref b v) m.alone));
  }

  put_own_may : Contains (ids_of b1) id.index → MayBeOperand b1 op (Result id 0)
  put_own_may here = record { live = here; alone = λ k is. let clash : result (position_in b op) 0 ≡ result (position_in b1 op) (suc k) = sym put_own ∙ is in cc }

  pub was_put : Contains (ids_of b1) id.index → spare_ops b ≤ spare_ops b1 + 1 → spare_uses b ≤ spare_uses b1 + length new.operands.items
      → IsPutBefore b b1 op id (new_with b new new.operands.items) (length new.operands.items)
  was_put here ops_left uses_left = record {
    ops = put_ops;
    ids = put_ids;
    position = put_position;
    ready = put_ready;
    may = put_may;
    values = λ v m. put_values v m.live;
    own_may = put_own_may here;
    own = put_own;
    room = λ more operands room.
        let size : length (ids_of b1) ≡ suc (length (ids_of b)) = ap length put_ids ∙ length-insert_suc (ids_of b) (position_in b op) id.index in
        record { few = omega (arith, size, room.few); ops = omega (arith, ops_left, room.ops); uses = omega (arith, uses_left, room.uses) };
  }
