-- After a fold no pattern matches at an operation at which none did, if it used no result of the folded one, and was not left unused
-- or with the only use of a value by it.
use Rattle.std.proofs.Common.{◌≡◌, ◌⊎◌, ℕ, zero, suc, ◌+◌, ◌≤◌, Bool, true, false, cond, nat_eq, List, [], ◌∷◌, length, map, Some, None, slice_get, refl, sym, ap, subst, ◌∙◌, inl, inr, arith, option_map}
use Rattle.std.specs.Prelude.{All, Contains}
use Rattle.std.proofs.lemmas.List.Elements.{All-head, All-tail}
use Rattle.wiring.specs.Wiring.{In}
use Rattle.wiring.proofs.Members.{In-map, In-slice_get, All-member}
use Rattle.linked_lists.specs.Ids.{times}
use Rattle.hw_model.specs.Design.{Op}
use Rattle.hw_model.specs.Design.Ref.{result}
use Rattle.edit_laws.specs.Edit.{retarget}
use Rattle.ir_store.specs.declared.body.Body.{Body}
use Rattle.ir_store.specs.declared.operation.OpId.{OpId}
use Rattle.ir_store.specs.declared.operation.Value.TheVariants.{Result}
use Rattle.ir_store.specs.Bodies.{ids_of, ops_of, op_id}
use Rattle.ir_store.specs.BodyOps.{BodyOp, op_at}
use Rattle.ir_store.specs.Live.{IsLive, HasLive}
use Rattle.ir_store.specs.Numbered.{position_of, ref_by, op_by}
use Rattle.ir_store.specs.Uses.{uses_in}
use Rattle.ir_store.proofs.BodyLemmas.{ids_once}
use Rattle.fold_laws.specs.Edits.{edited_by}
use Rattle.fold_laws.specs.Nested.{uses_among, use_count}
use Rattle.fold_laws.specs.Table.{patterns}
use Rattle.fold_laws.specs.Unused.{is_used}
use Rattle.fold_laws.proofs.MadeKinds.{is_made}
use Rattle.fold_laws.proofs.NestedUses.{uses_of_two}
use Rattle.canonicalise.specs.Reach.{SeesNoMore}
use Rattle.canonicalise.proofs.AllPatterns.{first_quiet, all_patterns_quiet}
use Rattle.canonicalise.proofs.AllShown.{table_shown}
use Rattle.canonicalise.proofs.Counts.{used_among, among_used, used_by_one, unused_count}
use Rattle.canonicalise.proofs.PatternEdits.{IsShown}
use Rattle.canonicalise.proofs.Sees.{sees_no_more}
use Rattle.body_edits.specs.FitBodies.{IsOfFit}
use Rattle.body_edits.specs.Folded.{IsPatternEdit, IsFolded}
use Rattle.body_edits.specs.Replaceable.{HaveNoFurther}
use Rattle.body_edits.specs.Views.{HasOp, body_ops, position_in}
use Rattle.body_edits.proofs.FitOps.{fit_live, fit_no_further}
use Rattle.body_edits.proofs.OperandEditing.{op_there, operands_seen}
use Rattle.canonicalise.specs.Canonical.{table}
use Rattle.canonicalise.specs.Runs.{AreNext}
use Rattle.canonicalise.specs.Settled.{IsUser, IsApart}
use Rattle.canonicalise.proofs.IdUses.{at_position, contains_at, one_position, position_found, same_id, IsResultOf, result_among, operand_used, few_uses, times_few}
use Rattle.canonicalise.proofs.KeptOps.{IsFreshOf, IsGone, IsKept, pattern_keeps}
use Rattle.canonicalise.proofs.Visiting.{length-body_ops, position_is}

-- ---- operands of operations that are there

live_op : (ids : List ℕ) (ops : List BodyOp) (u : ℕ) (o : BodyOp) → All (HasLive ids) ops → op_at ops u ≡ Some o → HasLive ids o
live_op ids [] u o live is = cc
live_op ids (p ∷ ops) u o live is = go (nat_eq p.id u) is (live_op ids ops u o (All-tail (HasLive ids) p ops live))
  where
    go : (b : Bool) → cond b (Some p) (op_at ops u) ≡ Some o → (op_at ops u ≡ Some o → HasLive ids o) → HasLive ids o
    go true at rest = let same : p ≡ o = cc in subst (HasLive ids) same (All-head (HasLive ids) p ops live)
    go false at rest = rest at

-- an operand that is a result is one of an operation that is there
operand_there : (b : Body) → IsOfFit b → (u : ℕ) (o : BodyOp) → op_at (ops_of b) u ≡ Some o → (w : OpId) (n : ℕ) → In (Result w n) o.operands → Contains (ids_of b) w.index
operand_there b fit u o is w n here = All-member (IsLive (ids_of b)) o.operands (live_op (ids_of b) (ops_of b) u o (fit_live b fit) is) (Result w n) here

-- the operation at the position of an id
seen_at : (b : Body) (u : ℕ) (o : BodyOp) → op_at (ops_of b) u ≡ Some o → slice_get (body_ops b) (position_of (ids_of b) u) ≡ Some (op_by (position_of (ids_of b)) o)
seen_at b u o is = ap (slice_get (body_ops b)) (sym (position_is b (op_id u))) ∙ operands_seen b (op_id u) o is

few_in_body : (b : Body) (w : OpId) → length (uses_in (Result w 0) (ops_of b)) ≤ use_count (position_of (ids_of b) w.index) (body_ops b)
unfolding body_ops
few_in_body b w = few_uses (position_of (ids_of b)) w (ops_of b)

id_once : (b : Body) (u : ℕ) → times u (ids_of b) ≤ 1
id_once b u = ids_once b u

-- ---- a fold

module _ (before after : Body) (op : OpId) (fit : IsOfFit before) (fit_then : IsOfFit after) (there : HasOp before op) (folded : IsFolded table before after (position_in before op)) where
  -- the operation that is folded
  pub own : (o : BodyOp) × (op_at (ops_of before) op.index ≡ Some o)
  own = op_there (ops_of before) op.index there

  abbrev os : List Op
  os = body_ops before

  abbrev os' : List Op
  os' = body_ops after

  abbrev old : Op
  old = op_by (position_of (ids_of before)) own.0

  old_there : slice_get os (position_in before op) ≡ Some old
  old_there = operands_seen before op own.0 own.1

  shown : IsShown os (position_in before op) folded.edits
  shown = table_shown os (position_in before op) folded.edits folded.matches

  pub kept : IsKept os (position_in before op) old folded.edits
  kept = pattern_keeps os (position_in before op) old old_there folded.edits
      (subst (λ n. IsPatternEdit n (position_in before op) folded.edits) (sym (length-body_ops before)) folded.form) shown

  fresh : IsFreshOf folded.fresh (length os) (ids_of before)
  fresh = record { size = sym (length-body_ops before); unused = λ j at. folded.is_fresh (contains_at (ids_of before) j folded.fresh at) }

  abbrev Gone : ℕ → Type 0
  Gone j = (j ≡ position_in before op) ⊎ (j ≡ kept.inner)

  -- an operation stays, and no pattern matches at it
  pub record Stays (u : ℕ) : Type 0 where
    pub settled : Contains (ids_of after) u × (table os' (position_of (ids_of after) u) ≡ None)
    pub stays : Gone (position_of (ids_of before) u) → ⊥

  -- where the id of an operation that stays stands afterwards
  id_after : (j w : ℕ) → (Gone j → ⊥) → slice_get (ids_of before) j ≡ Some w → slice_get (ids_of after) (kept.position j) ≡ Some w
  id_after j w stays at = ap (λ z. slice_get z (kept.position j)) folded.ids ∙ kept.ids folded.fresh (ids_of before) fresh j stays ∙ at

  -- the operands of the one that is folded, by ids
  among_own : (j n : ℕ) → In (result j n) old.operands → IsResultOf (ids_of before) own.0.operands j n
  among_own j n here = result_among (ids_of before) own.0.operands j n here

  own_live : (w : OpId) (n : ℕ) → In (Result w n) own.0.operands → Contains (ids_of before) w.index
  own_live w n here = operand_there before fit op.index own.0 own.1 w n here

  -- the operation that goes is there no more
  is_gone : IsGone os old kept.inner folded.fresh folded.edits → (w : OpId) → Contains (ids_of before) w.index → position_of (ids_of before) w.index ≡ kept.inner → Contains (ids_of after) w.index → ⊥
  is_gone gone w live at still =
      let was : slice_get (ids_of before) kept.inner ≡ Some w.index = ap (slice_get (ids_of before)) (sym at) ∙ at_position (ids_of before) w.index live in
      gone.away (ids_of before) (position_of (ids_of after) w.index) w.index fresh
      (ap (λ z. slice_get z (position_of (ids_of after) w.index)) (sym folded.ids) ∙ at_position (ids_of after) w.index still) was
      (λ j here. one_position w.index (ids_of before) (id_once before w.index) j kept.inner here was)

  module _ (u : ℕ) (here : Contains (ids_of before) u) (quiet : table os (position_of (ids_of before) u) ≡ None) (other : u ≡ op.index → ⊥)
      (no_user : IsUser (Result op 0) (ops_of before) u → ⊥) (apart : (w : OpId) (n : ℕ) → In (Result w n) own.0.operands → IsApart after w u) where
    abbrev p : ℕ
    p = position_of (ids_of before) u

    not_folded : p ≡ position_in before op → ⊥
    not_folded same = other (same_id (ids_of before) u op.index here there (same ∙ position_is before op))

    stays : Gone p → ⊥
    stays (inl same) = not_folded same
    stays (inr same) = go (kept.goes folded.fresh)
      where
        go : (kept.inner ≡ position_in before op) ⊎ IsGone os old kept.inner folded.fresh folded.edits → ⊥
        go (inl one) = not_folded (same ∙ one)
        go (inr gone) =
            let r = among_own kept.inner 0 gone.named in
            let live = own_live r.id 0 r.named in
            (apart r.id 0 r.named).gone (is_gone gone r.id live r.position) (same_id (ids_of before) u r.id.index here live (same ∙ sym r.position))

    own_u : (o : BodyOp) × (op_at (ops_of before) u ≡ Some o)
    own_u = op_there (ops_of before) u here

    abbrev user : Op
    user = op_by (position_of (ids_of before)) own_u.0

    user_there : slice_get os p ≡ Some user
    user_there = seen_at before u own_u.0 own_u.1

    -- it uses no result of the one that is folded
    no_result : (n : ℕ) → In (result (position_in before op) n) user.operands → ⊥
    no_result n named = go (shown.alone old old_there)
      where
        r : IsResultOf (ids_of before) own_u.0.operands (position_in before op) n
        r = result_among (ids_of before) own_u.0.operands (position_in before op) n named

        same : r.id.index ≡ op.index
        same = same_id (ids_of before) r.id.index op.index (operand_there before fit u own_u.0 own_u.1 r.id n r.named) there (r.position ∙ position_is before op)

        by_number : (n : ℕ) → In (result (position_in before op) n) user.operands → In (Result r.id n) own_u.0.operands
            → HaveNoFurther (position_in before op) os → ⊥
        by_number zero named mine none = no_user (operand_used (Result op 0) (ops_of before) u own_u.0 own_u.1 (subst (λ i. In (Result (op_id i) 0) own_u.0.operands) same mine))
        by_number (suc k) named mine none = none user (In-slice_get user os p user_there) (result (position_in before op) (suc k)) named k refl

        go : (is_made old.kind ≡ true) ⊎ (is_used (position_in before op) os ≡ false) → ⊥
        go (inl made) = by_number n named r.named (fit_no_further before fit (position_in before op) old old_there made)
        go (inr unused) =
            let some = used_among (position_in before op) n user.operands named in
            let most = used_by_one (position_in before op) os p user user_there in
            let none = unused_count (position_in before op) os unused in
            omega (arith, some, most, none)

    stay : (j n : ℕ) → In (result j n) user.operands → Gone j → ⊥
    stay j n named (inl same) = no_result n (subst (λ i. In (result i n) user.operands) same named)
    stay j n named (inr same) = go (kept.goes folded.fresh)
      where
        go : (kept.inner ≡ position_in before op) ⊎ IsGone os old kept.inner folded.fresh folded.edits → ⊥
        go (inl one) = no_result n (subst (λ i. In (result i n) user.operands) (same ∙ one) named)
        go (inr gone) =
            let both = uses_of_two kept.inner os p (position_in before op) user old (λ e. not_folded (sym e)) user_there old_there in
            let one = used_among kept.inner n user.operands (subst (λ i. In (result i n) user.operands) same named) in
            let two = used_among kept.inner 0 old.operands gone.named in
            omega (arith, both, one, two, gone.once)

    kept_at : position_of (ids_of after) u ≡ kept.position p
    kept_at = position_found (ids_of after) u (kept.position p) (id_once after u) (id_after p u stays (at_position (ids_of before) u here))

    still : Contains (ids_of after) u
    still = contains_at (ids_of after) (kept.position p) u (id_after p u stays (at_position (ids_of before) u here))

    -- what the folded one did not use loses nothing
    enough : (j : ℕ) → (Gone j → ⊥) → ((n : ℕ) → In (result j n) old.operands → ⊥) → kept.lost j ≤ kept.gained j
    enough j keeps none = go (uses_among j old.operands) refl (kept.few j keeps)
      where
        go : (k : ℕ) → uses_among j old.operands ≡ k → kept.lost j ≤ kept.gained j + uses_among j old.operands → kept.lost j ≤ kept.gained j
        go zero is few = omega (arith, is, few)
        go (suc k) is few = let found = among_used j old.operands (omega (arith, is)) in absurd (none found.0 found.1)

    unused : use_count (kept.position p) os' ≡ 0 → kept.lost p ≤ kept.gained p
    unused none = enough p stays (λ n named.
        let r = among_own p n named in
        let same : u ≡ r.id.index = same_id (ids_of before) u r.id.index here (own_live r.id n r.named) (sym r.position) in
        let few = few_in_body after r.id in
        let at : use_count (position_of (ids_of after) r.id.index) os' ≡ 0 = ap (λ i. use_count (position_of (ids_of after) i) os') (sym same) ∙ ap (λ i. use_count i os') kept_at ∙ none in
        (apart r.id n r.named).unused (omega (arith, few, at)) same)

    -- the operation afterwards, by ids
    own_then : (o : BodyOp) × (op_at (ops_of after) u ≡ Some o)
    own_then = op_there (ops_of after) u still

    same_operands : map kept.name user.operands ≡ map (ref_by (position_of (ids_of after))) own_then.0.operands
    same_operands =
        let one : slice_get os' (kept.position p) ≡ Some (retarget kept.name user) =
        ap (λ z. slice_get z (kept.position p)) folded.ops ∙ kept.keeps.ops p stays ∙ ap (option_map (retarget kept.name)) user_there in
        let two : slice_get os' (kept.position p) ≡ Some (op_by (position_of (ids_of after)) own_then.0) = ap (slice_get os') (sym kept_at) ∙ seen_at after u own_then.0 own_then.1 in
        let both : Some (retarget kept.name user) ≡ Some (op_by (position_of (ids_of after)) own_then.0) = sym one ∙ two in
        let same : retarget kept.name user ≡ op_by (position_of (ids_of after)) own_then.0 = cc in
        ap (λ (o : Op). o.operands) same

    -- it still uses what it used
    uses_still : (w : OpId) (j : ℕ) → In (result j 0) user.operands → Contains (ids_of after) w.index → position_of (ids_of after) w.index ≡ kept.position j → IsUser (Result w 0) (ops_of after) u
    uses_still w j named live at =
        let moved : In (kept.name (result j 0)) (map kept.name user.operands) = In-map kept.name (result j 0) user.operands named in
        let here_now : In (result (kept.position j) 0) (map (ref_by (position_of (ids_of after))) own_then.0.operands) =
        subst (In (result (kept.position j) 0)) same_operands (subst (λ r. In r (map kept.name user.operands)) (kept.keeps.results j 0 (stay j 0 named)) moved) in
        let r = result_among (ids_of after) own_then.0.operands (kept.position j) 0 here_now in
        let same : r.id.index ≡ w.index = same_id (ids_of after) r.id.index w.index (operand_there after fit_then u own_then.0 own_then.1 r.id 0 r.named) live (r.position ∙ sym at) in
        operand_used (Result w 0) (ops_of after) u own_then.0 own_then.1 (subst (λ i. In (Result (op_id i) 0) own_then.0.operands) same r.named)

    single : (j : ℕ) → In (result j 0) user.operands → use_count (kept.position j) os' ≡ 1 → kept.lost j ≤ kept.gained j
    single j used one = enough j (stay j 0 used) (λ n named.
        let r = among_own j n named in
        let live = own_live r.id n r.named in
        let at : slice_get (ids_of before) j ≡ Some r.id.index = ap (slice_get (ids_of before)) (sym r.position) ∙ at_position (ids_of before) r.id.index live in
        let at_then = id_after j r.id.index (stay j 0 used) at in
        let live_then = contains_at (ids_of after) (kept.position j) r.id.index at_then in
        let position = position_found (ids_of after) r.id.index (kept.position j) (id_once after r.id.index) at_then in
        let again = uses_still r.id j used live_then position in
        let few = few_in_body after r.id in
        let count : use_count (position_of (ids_of after) r.id.index) os' ≡ 1 = ap (λ i. use_count i os') position ∙ one in
        let most = times_few again.position (uses_in (Result r.id 0) (ops_of after)) in
        let own_use = again.used in
        (apart r.id n r.named).single live_then (omega (arith, few, count, most, own_use)) again)

    sees : SeesNoMore os p os' (kept.position p)
    sees = subst (λ z. SeesNoMore os p z (kept.position p)) (sym folded.ops)
        (sees_no_more Gone kept.name kept.position kept.lost kept.gained os (edited_by folded.edits os) kept.keeps p user user_there stays stay
        (λ none. unused (ap (use_count (kept.position p)) folded.ops ∙ none)) (λ j used one. single j used (ap (use_count (kept.position j)) folded.ops ∙ one)))

    pub stays_settled : Stays u
    stays_settled = record {
      settled = (still, ap (table os') kept_at ∙ first_quiet patterns all_patterns_quiet os p os' (kept.position p) sees quiet);
      stays = stays;
    }

  -- two that stay, one right after the other, stand so afterwards
  pub next_stays : (x y : ℕ) → Stays x → Stays y → AreNext (ids_of before) x y → AreNext (ids_of after) x y
  next_stays x y one other two =
      let at : position_of (ids_of before) x ≡ two.at = position_found (ids_of before) x two.at (id_once before x) two.first in
      let further : position_of (ids_of before) y ≡ suc two.at = position_found (ids_of before) y (suc two.at) (id_once before y) two.second in
      let first : Gone two.at → ⊥ = (λ gone. one.stays (subst Gone (sym at) gone)) in
      let second : Gone (suc two.at) → ⊥ = (λ gone. other.stays (subst Gone (sym further) gone)) in
      record {
        at = kept.position two.at;
        first = id_after two.at x first two.first;
        second = ap (slice_get (ids_of after)) (sym (kept.next two.at first second)) ∙ id_after (suc two.at) y second two.second;
      }
