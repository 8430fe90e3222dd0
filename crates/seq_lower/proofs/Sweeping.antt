-- The operations of a body in code are lowered one after another.
use Rattle.std.proofs.Common.{◌≡◌, ℕ, zero, suc, ◌<◌, ◌≤◌, Bool, true, false, cond, nat_eq, List, [], ◌∷◌, length, map, drop, Option, Some, None, refl, sym, ap, ap₂, subst, ◌∙◌, arith}
use Rattle.std.proofs.lemmas.Bool.{eqb-false}
use Rattle.std.proofs.lemmas.List.{length-map}
use Rattle.linked_lists.specs.Ids.{times}
use Rattle.linked_lists.proofs.IdLemmas.{times_contained}
use Rattle.ir_store.specs.declared.body.Body.{Body}
use Rattle.ir_store.specs.declared.operation.OpId.{OpId}
use Rattle.ir_store.specs.Bodies.{ids_of, ops_of, op_id, first_id}
use Rattle.ir_store.specs.BodyOps.{BodyOp}
use Rattle.ir_store.specs.Live.{AreDistinct}
use Rattle.ir_store.specs.Numbered.{position_of, op_by, ops_by_position}
use Rattle.ir_store.proofs.BodyLemmas.{ids_once}
use Rattle.body_edits.specs.FitBodies.{IsOfFit}
use Rattle.body_edits.specs.Views.{HasOp, body_ops, position_in}
use Rattle.seq_lower.specs.Lowered.{lowered_at, next_position, lower_from, lowered, Lowers}
use Rattle.seq_lower.specs.LoweredOps.{IsLoweredIn}
use Rattle.seq_lower.proofs.Following.{fit_after}

-- ---- ids

-- the id at a position, where the first from there on is told
split_at : (ids : List ℕ) (i : ℕ) (op : OpId) → Some op ≡ first_id (map op_id (drop i ids)) → drop i ids ≡ op.index ∷ drop (suc i) ids
split_at [] zero op is = cc
split_at [] (suc i) op is = cc
split_at (x ∷ ids) zero op is = let same : op ≡ op_id x = cc in ap (λ (o : OpId). o.index ∷ ids) (sym same)
split_at (x ∷ ids) (suc i) op is = split_at ids i op is

-- there is none where there is no first
none_left : (ids : List ℕ) → first_id (map op_id ids) ≡ None → ids ≡ []
none_left [] is = refl
none_left (x ∷ ids) is = cc

times_self : (v : ℕ) (ids : List ℕ) → times v (v ∷ ids) ≡ suc (times v ids)
times_self v ids = go (nat_eq v v) refl
  where
    go : (b : Bool) → nat_eq v v ≡ b → cond b (suc (times v ids)) (times v ids) ≡ suc (times v ids)
    go true is = refl
    go false is = absurd (eqb-false v v is refl)

-- an id after others is there once at least
times_after : (v : ℕ) (ids : List ℕ) (i : ℕ) (rest : List ℕ) → drop i ids ≡ v ∷ rest → 1 ≤ times v ids
times_after v ids zero rest is = let one : times v ids ≡ suc (times v rest) = ap (times v) is ∙ times_self v rest in omega (arith, one)
times_after v [] (suc i) rest is = cc
times_after v (x ∷ ids) (suc i) rest is = go (nat_eq x v) (times_after v ids i rest is)
  where
    go : (b : Bool) → 1 ≤ times v ids → 1 ≤ cond b (suc (times v ids)) (times v ids)
    go true more = omega (arith, more)
    go false more = more

-- where each id stands once, its position is that at which it stands
position_at : (v : ℕ) (ids : List ℕ) (i : ℕ) (rest : List ℕ) → times v ids ≤ 1 → drop i ids ≡ v ∷ rest → position_of ids v ≡ i
position_at v [] zero rest once is = cc
position_at v [] (suc i) rest once is = cc
position_at v (x ∷ ids) zero rest once is = go (nat_eq x v) refl
  where
    same : x ≡ v
    same = cc

    go : (b : Bool) → nat_eq x v ≡ b → cond b 0 (suc (position_of ids v)) ≡ 0
    go true t = refl
    go false t = absurd (eqb-false x v t same)
position_at v (x ∷ ids) (suc i) rest once is = go (nat_eq x v) once (position_at v ids i rest) (times_after v ids i rest is)
  where
    go : (b : Bool) → cond b (suc (times v ids)) (times v ids) ≤ 1 → (times v ids ≤ 1 → drop i ids ≡ v ∷ rest → position_of ids v ≡ i) → 1 ≤ times v ids
        → cond b 0 (suc (position_of ids v)) ≡ suc i
    go true once r more = absurd (omega (arith, once, more))
    go false once r more = ap suc (r once is)

-- how many operations are left from one on
abbrev pub left : List ℕ → Option OpId → ℕ
left ids None = 0
left ids (Some op) = length (drop (position_of ids op.index) ids)

left_is : (ids : List ℕ) (i : ℕ) (at : Option OpId) → AreDistinct ids → at ≡ first_id (map op_id (drop i ids)) → left ids at ≡ length (drop i ids)
left_is ids i None once is = sym (ap length (none_left (drop i ids) (sym is)))
left_is ids i (Some op) once is = ap (λ n. length (drop n ids)) (position_at op.index ids i (drop (suc i) ids) (once op.index) (split_at ids i op is))

-- ---- bodies

length_ops : (b : Body) → length (ids_of b) ≡ length (body_ops b)
unfolding body_ops
length_ops b = length-map (ops_of b) (λ (o : BodyOp). o.id) ∙ sym (length-map (ops_of b) (op_by (position_of (ids_of b))))

position_is : (b : Body) (op : OpId) → position_in b op ≡ position_of (ids_of b) op.index
unfolding position_in
position_is b op = refl

same_ops : (b after : Body) → ops_of after ≡ ops_of b → body_ops after ≡ body_ops b
unfolding body_ops
same_ops b after same = ap ops_by_position same

-- the first operations of a body are lowered, and those from one on are left
pub record IsOnWay (first body : Body) (at : Option OpId) : Type 0 where
  pub fit : IsOfFit body
  pub position : ℕ
  pub is : lower_from (length (drop position (ids_of body))) position (body_ops body) ≡ lowered (body_ops first)
  pub at_is : at ≡ first_id (map op_id (drop position (ids_of body)))
  pub leads : Lowers (body_ops first) (body_ops body)

pub begin : (b : Body) (at : Option OpId) → IsOfFit b → at ≡ first_id (map op_id (ids_of b)) → IsOnWay b b at
begin b at fit is = record {
  fit = fit;
  position = 0;
  is = ap (λ n. lower_from n 0 (body_ops b)) (length_ops b);
  at_is = is;
  leads = record { count = 0; leads = refl };
}

module _ (first body : Body) (op : OpId) (way : IsOnWay first body (Some op)) where
  split : drop way.position (ids_of body) ≡ op.index ∷ drop (suc way.position) (ids_of body)
  split = split_at (ids_of body) way.position op way.at_is

  stands : position_in body op ≡ way.position
  stands = position_is body op ∙ position_at op.index (ids_of body) way.position (drop (suc way.position) (ids_of body)) (ids_once body op.index) split

  pub has_op : HasOp body op
  has_op = let more = times_after op.index (ids_of body) way.position (drop (suc way.position) (ids_of body)) split in times_contained (ids_of body) op.index more

  module _ (after : Body) (next : Option OpId) (is : next ≡ first_id (map op_id (drop (suc (position_of (ids_of body) op.index)) (ids_of body)))) (one : IsLoweredIn body after op) where
    ops_here : body_ops after ≡ lowered_at way.position (body_ops body)
    ops_here = one.ops ∙ ap (λ n. lowered_at n (body_ops body)) stands

    rest_here : drop (next_position way.position (body_ops body)) (ids_of after) ≡ drop (suc way.position) (ids_of body)
    rest_here = subst (λ n. drop (next_position n (body_ops body)) (ids_of after) ≡ drop (suc n) (ids_of body)) stands one.rest

    next_here : next ≡ first_id (map op_id (drop (next_position way.position (body_ops body)) (ids_of after)))
    next_here = is ∙ ap (λ n. first_id (map op_id (drop (suc n) (ids_of body)))) (sym (position_is body op) ∙ stands) ∙ ap (λ ids. first_id (map op_id ids)) (sym rest_here)

    leads_here : Lowers (body_ops first) (body_ops after)
    leads_here = record { count = suc way.leads.count; leads = (body_ops body, way.leads.leads, (way.position, ops_here)) }

    pub goes_on : IsOnWay first after next
    goes_on = record {
      fit = fit_after body after way.fit (record { count = 1; leads = (body_ops body, refl, (way.position, ops_here)) });
      position = next_position way.position (body_ops body);
      is = ap₂ (λ n os. lower_from n (next_position way.position (body_ops body)) os) (ap length rest_here) ops_here
          ∙ ap (λ n. lower_from n way.position (body_ops body)) (sym (ap length split)) ∙ way.is;
      at_is = next_here;
      leads = leads_here;
    }

    pub fewer_left : left (ids_of after) next < left (ids_of body) (Some op)
    fewer_left =
        let new : left (ids_of after) next ≡ length (drop (next_position way.position (body_ops body)) (ids_of after)) =
        left_is (ids_of after) (next_position way.position (body_ops body)) next (ids_once after) next_here in
        let same : length (drop (next_position way.position (body_ops body)) (ids_of after)) ≡ length (drop (suc way.position) (ids_of body)) = ap length rest_here in
        let old : left (ids_of body) (Some op) ≡ length (drop way.position (ids_of body)) = left_is (ids_of body) way.position (Some op) (ids_once body) way.at_is in
        let more : length (drop way.position (ids_of body)) ≡ suc (length (drop (suc way.position) (ids_of body))) = ap length split in
        omega (arith, new, same, old, more)

  -- nothing has changed
  pub leads_same : (after : Body) → ops_of after ≡ ops_of body → Lowers (body_ops first) (body_ops after)
  leads_same after same = subst (Lowers (body_ops first)) (sym (same_ops body after same)) way.leads

-- nothing is left
pub all_lowered : (first body : Body) (at : Option OpId) → IsOnWay first body at → at ≡ None → body_ops body ≡ lowered (body_ops first)
all_lowered first body at way end =
    ap (λ ids. lower_from (length ids) way.position (body_ops body)) (sym (none_left (drop way.position (ids_of body)) (sym way.at_is ∙ end))) ∙ way.is
