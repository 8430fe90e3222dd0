-- Operations of a body in code that are merged in an order of their own.
use Rattle.std.proofs.Common.{◌≡◌, ◌<◌, ℕ, zero, suc, Bool, true, false, cond, nat_eq, List, [], ◌∷◌, All, Contains, remove, Option, Some, None, slice_get, Result, Ok, Err, OnOk, OnErr, refl, sym, ap, ap₂, subst, ◌∙◌, arith}
use Rattle.std.proofs.lemmas.Bool.{eqb-true, eqb-false, ltb-true}
use Rattle.std.proofs.lemmas.List.Elements.{All-head, All-tail}
use Rattle.hw_model.specs.KindViews.{kind_of}
use Rattle.edit_laws.specs.Laws.{up}
use Rattle.edit_laws.proofs.Positions.{down-up, get_taken}
use Rattle.ir_store.specs.declared.body.Body.{Body}
use Rattle.ir_store.specs.declared.body.Op.{Op as ReadOp}
use Rattle.ir_store.specs.declared.operation.OpId.{OpId}
use Rattle.ir_store.specs.Bodies.{ids_of, ops_of, read_op}
use Rattle.ir_store.specs.BodyOps.{BodyOp, ids_in, op_at}
use Rattle.ir_store.specs.Live.{HasLive, AreDistinct}
use Rattle.ir_store.specs.Numbered.{position_of, op_by}
use Rattle.ir_store.proofs.BodyLemmas.{ids_once}
use Rattle.body_index.specs.PositionTables.{ArePositions}
use Rattle.body_index.proofs.PositionTables.{position_found}
use Rattle.fold_laws.specs.Unused.{is_pure}
use Rattle.body_edits.specs.FitBodies.{IsOfFit}
use Rattle.body_edits.specs.Views.{HasOp, body_ops, position_in, value_ref, op_seen}
use Rattle.body_edits.proofs.FitOps.{fit_live}
use Rattle.body_edits.proofs.Positions.{op_at_position}
use Rattle.body_edits.proofs.ReadBodies.{op_seen_at, op_live}
use Rattle.cse_pass.specs.EqualOps.{EqualFound}
use Rattle.cse_pass.specs.Merges.{MergesInto}
use Rattle.cse_pass.specs.Orders.{is_below, AreInOrder, IsEarlierSame}
use Rattle.cse_pass.specs.Same.{are_same, are_same_ops, are_same_at}
use Rattle.cse_pass.specs.Sweeps.{IsMergedInto}
use Rattle.cse_pass.proofs.MergedVisits.{ids_are, merged_into, into_fit, fit_same}
use Rattle.cse_pass.proofs.MergeRuns.{no_merge, merges_then}
use Rattle.cse_pass.proofs.Places.{up_less_from}
use Rattle.cse_pass.proofs.SameHashes.{same_is_equal}
use Rattle.cse_pass.proofs.Sweeping.{same_ops}
use Rattle.cse_pass.proofs.Walking.{there_contained}

-- ---- positions of ids

there_at : (xs : List ℕ) (x : ℕ) → Contains xs x → slice_get xs (position_of xs x) ≡ Some x
there_at [] x (k, l, e) = absurd (omega (arith, l))
there_at (y ∷ xs) x c = go (nat_eq y x) refl c (there_at xs x)
  where
    go : (b : Bool) → nat_eq y x ≡ b → Contains (y ∷ xs) x → (Contains xs x → slice_get xs (position_of xs x) ≡ Some x)
        → slice_get (y ∷ xs) (cond b 0 (suc (position_of xs x))) ≡ Some x
    go true is here rest = ap Some (eqb-true y x is)
    go false is (zero, l, e) rest = absurd (eqb-false y x is e)
    go false is (suc k, l, e) rest = rest (k, omega (arith, l), e)

op_has : (P : BodyOp → Type 0) (id : ℕ) (ops : List BodyOp) (o : BodyOp) → All P ops → op_at ops id ≡ Some o → P o
op_has P id [] o all is = cc
op_has P id (p ∷ ops) o all is = go (nat_eq p.id id) is (op_has P id ops o (All-tail P p ops all))
  where
    go : (b : Bool) → cond b (Some p) (op_at ops id) ≡ Some o → (op_at ops id ≡ Some o → P o) → P o
    go true here rest = let same : p ≡ o = cc in subst P same (All-head P p ops all)
    go false here rest = rest here

-- an id that is there once one is taken out
module _ (xs : List ℕ) (i x : ℕ) (there : Contains (remove xs i) x) where
  left_at : slice_get xs (up i (position_of (remove xs i) x)) ≡ Some x
  left_at = sym (get_taken xs i (up i (position_of (remove xs i) x)) (position_of (remove xs i) x) (down-up i (position_of (remove xs i) x))) ∙ there_at (remove xs i) x there

  was_there : Contains xs x
  was_there = there_contained xs (up i (position_of (remove xs i) x)) x left_at

  was_at : AreDistinct xs → position_of xs x ≡ up i (position_of (remove xs i) x)
  was_at once = position_found xs x (up i (position_of (remove xs i) x)) (once x) left_at

-- ---- orders

-- the order of the positions
pub order_first : (b : Body) (places : List ℕ) → ArePositions (ids_of b) places → AreInOrder places b
unfolding position_in
order_first b places table = λ a c here there before.
    ltb-true (position_of (ids_of b) a.index) (position_of (ids_of b) c.index) (sym (ap₂ is_below (at a here) (at c there)) ∙ before)
  where
    at : (a : OpId) → HasOp b a → slice_get places a.index ≡ Some (position_of (ids_of b) a.index)
    at a here = table.known (position_of (ids_of b) a.index) a.index (there_at (ids_of b) a.index here)

-- stays once one is taken out
order_left : (places : List ℕ) (b after : Body) (i : ℕ) → ids_of after ≡ remove (ids_of b) i → AreInOrder places b → AreInOrder places after
unfolding position_in
order_left places b after i is ordered = λ a c here there before.
    let one : Contains (remove (ids_of b) i) a.index = subst (λ xs. Contains xs a.index) is here in
    let two : Contains (remove (ids_of b) i) c.index = subst (λ xs. Contains xs c.index) is there in
    let less = ordered a c (was_there (ids_of b) i a.index one) (was_there (ids_of b) i c.index two) before in
    let of_a = was_at (ids_of b) i a.index one (ids_once b) in
    let of_c = was_at (ids_of b) i c.index two (ids_once b) in
    subst (λ xs. position_of xs a.index < position_of xs c.index) (sym is)
    (up_less_from i (position_of (remove (ids_of b) i) a.index) (position_of (remove (ids_of b) i) c.index) (omega (arith, less, of_a, of_c)))

order_same : (places : List ℕ) (b after : Body) → ids_of after ≡ ids_of b → AreInOrder places b → AreInOrder places after
unfolding position_in
order_same places b after is ordered = λ a c here there before.
    subst (λ xs. position_of xs a.index < position_of xs c.index) (sym is)
    (ordered a c (subst (λ xs. Contains xs a.index) is here) (subst (λ xs. Contains xs c.index) is there) before)

-- ---- an equal operation before one

module _ (b : Body) (fit : IsOfFit b) (places : List ℕ) (ordered : AreInOrder places b) (op : OpId) (live : HasOp b op) (o : ReadOp) (is : op_at (ops_of b) op.index ≡ Some (read_op op o))
    (pure : is_pure (kind_of o.kind.now) ≡ true) (first : OpId) (earlier : IsEarlierSame places b op first) where
  pub earlier_found : EqualFound (body_ops b) (position_in b op) (position_in b first)
  unfolding body_ops position_in value_ref
  earlier_found = go (op_at (ops_of b) first.index) refl earlier.same
    where
      of_first : (p : BodyOp) → op_at (ops_of b) first.index ≡ Some p → are_same p.parts p.operands (read_op op o).parts (read_op op o).operands ≡ true
          → EqualFound (body_ops b) (position_in b op) (position_in b first)
      of_first p at same = record {
        op = op_seen b o;
        there = op_seen_at b op o is;
        pure = pure;
        first = op_by (position_of (ids_of b)) p;
        first_there = op_at_position (op_by (position_of (ids_of b))) first.index (ops_of b) p at;
        before = ordered first op earlier.there live earlier.before;
        equal = sym (same_is_equal (ids_of b) p (read_op op o) (op_has (HasLive (ids_of b)) first.index (ops_of b) p (fit_live b fit) at) (op_live b op o (fit_live b fit) is)) ∙ same;
      }

      go : (x : Option BodyOp) → op_at (ops_of b) first.index ≡ x → are_same_at (ops_of b) first op ≡ true → EqualFound (body_ops b) (position_in b op) (position_in b first)
      go None at same = let clash : false ≡ true = sym (ap (λ z. are_same_ops z (op_at (ops_of b) op.index)) at) ∙ same in cc
      go (Some p) at same = of_first p at (sym (ap₂ are_same_ops at is) ∙ same)

-- ---- visits

-- merges lead from one body to another, which is of a fit design and in order
pub record IsAlong (places : List ℕ) (b after : Body) : Type 0 where
  pub fit : IsOfFit after
  pub ordered : AreInOrder places after
  pub merges : MergesInto (body_ops b) (body_ops after)

pub begin_along : (places : List ℕ) (b : Body) → IsOfFit b → AreInOrder places b → IsAlong places b b
begin_along places b fit ordered = record { fit = fit; ordered = ordered; merges = no_merge (body_ops b) }

pub along_then : (places : List ℕ) (a b c : Body) → IsAlong places a b → IsOfFit c → AreInOrder places c → MergesInto (body_ops b) (body_ops c) → IsAlong places a c
along_then places a b c first fit ordered merges = record { fit = fit; ordered = ordered; merges = merges_then (body_ops a) (body_ops b) (body_ops c) first.merges merges }

pub along_merged : (places : List ℕ) (b after : Body) → IsOfFit b → AreInOrder places b → (op first : OpId) → HasOp b op → EqualFound (body_ops b) (position_in b op) (position_in b first)
    → {T E : Type 0} (r : Result T E) → OnOk r (IsMergedInto b after op first) → OnErr r (ops_of after ≡ ops_of b) → IsAlong places b after
along_merged places b after fit ordered op first there found (Ok x) merged kept = record {
  fit = into_fit b after fit op first there found merged;
  ordered = order_left places b after (position_in b op) (ids_are b after fit op first there found merged) ordered;
  merges = merged_into b after fit op first there found merged;
}
along_merged places b after fit ordered op first there found (Err e) merged kept = record {
  fit = fit_same b after fit kept;
  ordered = order_same places b after (ap ids_in kept) ordered;
  merges = subst (MergesInto (body_ops b)) (sym (same_ops b after kept)) (no_merge (body_ops b));
}
