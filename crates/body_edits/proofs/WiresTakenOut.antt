-- A wire that is taken out of a body, its operand standing for its result, by ids and by positions.
use Rattle.std.proofs.Common.{◌≡◌, ℕ, zero, suc, ◌<◌, ◌≤◌, Bool, true, false, cond, nat_eq, List, [], ◌∷◌, ◌++◌, length, map, Option, Some, None, slice_get, refl, sym, ap, ap₂, subst, ◌∙◌, arith, eq-eqb, inl, inr, option_and_then}
use Rattle.std.specs.Prelude.{All, Contains, remove}
use Rattle.std.proofs.lemmas.Bool.{eqb-true}
use Rattle.hw_model.specs.Design.{Op}
use Rattle.hw_model.specs.Design.Ref.{result, undefined}
use Rattle.edit_laws.specs.Edit.{retarget}
use Rattle.edit_laws.specs.Laws.{ref_after_erase, without, erase_op}
use Rattle.edit_laws.proofs.Positions.{down_same}
use Rattle.linked_lists.specs.Ids.{times}
use Rattle.linked_lists.proofs.IdLemmas.{times-append, times_contained}
use Rattle.ir_store.specs.declared.operation.OpId.{OpId}
use Rattle.ir_store.specs.declared.operation.Value.{Value}
use Rattle.ir_store.specs.declared.operation.Value.TheVariants.{Port, Result, Undefined}
use Rattle.ir_store.specs.BodyOps.{BodyOp, ids_in, op_at, taken_out, all_replaced, replace_value, same_value, is_of, IsUnused}
use Rattle.ir_store.specs.Live.{IsLive, AreDistinct}
use Rattle.ir_store.specs.Numbered.{position_of, ref_by, op_by, ops_by_position}
use Rattle.ir_store.proofs.Living.{first_of_all, rest_of_all, all_with, all_mapped, ids-all_replaced, replaced_live, erased_live}
use Rattle.inline_laws.specs.Inline.{ref_or_undefined}
use Rattle.inline_laws.specs.Unwire.{operand_at, unwire}
use Rattle.body_edits.proofs.Erasing.{numbered_erase}
use Rattle.body_edits.proofs.IdsAfter.{ids_left}
use Rattle.body_edits.proofs.Naming.{unused_replaced}
use Rattle.body_edits.proofs.Positions.{op_at_position}
use Rattle.body_edits.specs.WiresOut.{value_or_undefined, other_value, IsFirstOf, HaveFirstOnly, StandTogether, first_position, carried_by, carried_value}
use Rattle.body_edits.proofs.IdLists.{once_before, times_self, position_back, position_self, parted, middle_found}

-- ---- what a wire carries

other_is : (id : ℕ) (v : Value) → is_of id (other_value id v) ≡ false
other_is id v = go (is_of id v) refl
  where
    go : (b : Bool) → is_of id v ≡ b → is_of id (cond b Undefined v) ≡ false
    go true is = refl
    go false is = is

carried_other : (id : ℕ) (ops : List BodyOp) → is_of id (carried_value id ops) ≡ false
carried_other id ops = go (op_at ops id)
  where
    go : (x : Option BodyOp) → is_of id (carried_by id x) ≡ false
    go None = refl
    go (Some o) = other_is id (value_or_undefined (slice_get o.operands 0))

-- what holds of nothing and of each operand holds of it
found_all : (P : BodyOp → Type 0) (ops : List BodyOp) (id : ℕ) (o : BodyOp) → All P ops → op_at ops id ≡ Some o → P o
found_all P [] id o all is = cc
found_all P (p ∷ ops) id o all is = go (nat_eq p.id id) is (found_all P ops id o (rest_of_all P p ops all))
  where
    go : (b : Bool) → cond b (Some p) (op_at ops id) ≡ Some o → (op_at ops id ≡ Some o → P o) → P o
    go true is rest = let same : p ≡ o = cc in subst P same (first_of_all P p ops all)
    go false is rest = rest is

carried_has : (P : Value → Type 0) (id : ℕ) (ops : List BodyOp) → P Undefined → All (λ (o : BodyOp). All P o.operands) ops → P (carried_value id ops)
carried_has P id ops none all = go (op_at ops id) refl
  where
    of_value : (v : Value) (b : Bool) → P v → P (cond b Undefined v)
    of_value v true p = none
    of_value v false p = p

    of_values : (vs : List Value) → All P vs → P (other_value id (value_or_undefined (slice_get vs 0)))
    of_values [] each = none
    of_values (v ∷ vs) each = of_value v (is_of id v) (first_of_all P v vs each)

    go : (x : Option BodyOp) → op_at ops id ≡ x → P (carried_by id x)
    go None is = none
    go (Some o) is = of_values o.operands (found_all (λ (p : BodyOp). All P p.operands) ops id o all is)

-- ---- lists

pub all_left : (P : BodyOp → Type 0) (id : ℕ) (ops : List BodyOp) → All P ops → All P (taken_out id ops)
all_left P id [] h = h
all_left P id (o ∷ ops) h = go (nat_eq o.id id) (all_left P id ops (rest_of_all P o ops h))
  where
    go : (t : Bool) → All P (taken_out id ops) → All P (cond t ops (o ∷ taken_out id ops))
    go true r = rest_of_all P o ops h
    go false r = all_with P o (taken_out id ops) (first_of_all P o ops h) r

pub remove_middle : (prefix : List ℕ) (v : ℕ) (back : List ℕ) → times v prefix ≡ 0 → remove (prefix ++ (v ∷ back)) (position_of (prefix ++ (v ∷ back)) v) ≡ prefix ++ back
remove_middle [] v back none = ap (λ b. remove (v ∷ back) (cond b 0 (suc (position_of back v)))) (eq-eqb v v refl)
remove_middle (x ∷ prefix) v back none = go (nat_eq x v) none (remove_middle prefix v back)
  where
    go : (b : Bool) → cond b (suc (times v prefix)) (times v prefix) ≡ 0 → (times v prefix ≡ 0 → remove (prefix ++ (v ∷ back)) (position_of (prefix ++ (v ∷ back)) v) ≡ prefix ++ back)
        → remove (x ∷ prefix ++ (v ∷ back)) (cond b 0 (suc (position_of (prefix ++ (v ∷ back)) v))) ≡ x ∷ prefix ++ back
    go true none rest = absurd (omega (arith, none))
    go false none rest = ap (λ xs. x ∷ xs) (rest none)

-- ---- by positions

gone_itself : (i : ℕ) (k : ℕ) → without i undefined (result i k) ≡ undefined
gone_itself i k = ap (λ z. ref_after_erase z undefined k) (down_same i) ∙ go k
  where
    go : (k : ℕ) → ref_after_erase None undefined k ≡ undefined
    go zero = refl
    go (suc k) = refl

-- what a wire carries stands for its result as its operand does
stands_alike : (ids : List ℕ) (id : ℕ) (v : Value) → without (position_of ids id) undefined (ref_by (position_of ids) (other_value id v)) ≡ without (position_of ids id) undefined (ref_by (position_of ids) v)
stands_alike ids id (Port n) = refl
stands_alike ids id Undefined = refl
stands_alike ids id (Result i k) = go (nat_eq i.index id) refl
  where
    go : (b : Bool) → nat_eq i.index id ≡ b
        → without (position_of ids id) undefined (ref_by (position_of ids) (cond b Undefined (Result i k))) ≡ without (position_of ids id) undefined (result (position_of ids i.index) k)
    go true is = sym (gone_itself (position_of ids id) k) ∙ ap (λ n. without (position_of ids id) undefined (result (position_of ids n) k)) (sym (eqb-true i.index id is))
    go false is = refl

erased_alike : (id : ℕ) (ops : List BodyOp) (o : BodyOp) → op_at ops id ≡ Some o
    → erase_op (position_of (ids_in ops) id) (ref_by (position_of (ids_in ops)) (carried_value id ops)) (ops_by_position ops)
    ≡ erase_op (position_of (ids_in ops) id) (operand_at (position_of (ids_in ops) id) (ops_by_position ops)) (ops_by_position ops)
erased_alike id ops o found =
    ap (λ x. map (retarget (without (position_of (ids_in ops) id) x)) (remove (ops_by_position ops) (position_of (ids_in ops) id)))
    (ap (λ x. without (position_of (ids_in ops) id) undefined (ref_by (position_of (ids_in ops)) (carried_by id x))) found
    ∙ stands_alike (ids_in ops) id (value_or_undefined (slice_get o.operands 0))
    ∙ ap (without (position_of (ids_in ops) id) undefined) (first o.operands ∙ ap (λ x. ref_or_undefined (option_and_then (λ (y : Op). slice_get y.operands 0) x))
    (sym (op_at_position (op_by (position_of (ids_in ops))) id ops o found))))
  where
    first : (vs : List Value) → ref_by (position_of (ids_in ops)) (value_or_undefined (slice_get vs 0)) ≡ ref_or_undefined (slice_get (map (ref_by (position_of (ids_in ops))) vs) 0)
    first [] = refl
    first (v ∷ vs) = refl

-- ---- one wire

module _ (w : OpId) (wires : List OpId) (ops : List BodyOp) (once : AreDistinct (ids_in ops)) (t : StandTogether (w ∷ wires) ops) where
  abbrev pub numbers : List ℕ
  numbers = map (λ (i : OpId). i.index) wires

  once_there : AreDistinct (t.prefix ++ (w.index ∷ (numbers ++ t.back)))
  once_there = subst AreDistinct t.ids once

  none_before : times w.index t.prefix ≡ 0
  none_before = once_before t.prefix w.index (numbers ++ t.back) once_there

  here : 0 < times w.index (ids_in ops)
  here =
      let same = ap (times w.index) t.ids in
      let both = times-append w.index t.prefix (w.index ∷ (numbers ++ t.back)) in
      let own = times_self w.index (numbers ++ t.back) in
      omega (arith, same, both, own)

  pub wire_there : Contains (ids_in ops) w.index
  wire_there = times_contained (ids_in ops) w.index here

  found : (o : BodyOp) × (op_at ops w.index ≡ Some o)
  found = let p = parted w.index ops here in
      (p.op, ap₂ op_at p.all (sym p.is) ∙ middle_found p.prefix p.op p.back (ap (λ v. times v (ids_in p.prefix)) p.is ∙ p.none))

  abbrev pub carried : Value
  carried = carried_value w.index ops

  abbrev pub replaced : List BodyOp
  replaced = all_replaced (Result w 0) carried ops

  pub wire_unused : IsUnused w.index replaced
  wire_unused = unused_replaced w carried ops (carried_other w.index ops) (t.first_only w (inl refl))

  pub wire_ids : ids_in (taken_out w.index replaced) ≡ remove (ids_in ops) (position_of (ids_in ops) w.index)
  wire_ids = ids_left w.index replaced ∙ ap (λ ids. remove ids (position_of ids w.index)) (ids-all_replaced (Result w 0) carried ops)

  others_ids : ids_in (taken_out w.index replaced) ≡ t.prefix ++ (numbers ++ t.back)
  others_ids = wire_ids ∙ ap (λ ids. remove ids (position_of ids w.index)) t.ids ∙ remove_middle t.prefix w.index (numbers ++ t.back) none_before

  others_first : HaveFirstOnly wires (taken_out w.index replaced)
  others_first v among =
      all_left (λ (o : BodyOp). All (IsFirstOf v) o.operands) w.index replaced
      (all_mapped (λ (o : BodyOp). All (IsFirstOf v) o.operands) (λ (o : BodyOp). All (IsFirstOf v) o.operands) (λ (o : BodyOp). record o { operands = map (replace_value (Result w 0) carried) o.operands })
      (λ o all. all_mapped (IsFirstOf v) (IsFirstOf v) (replace_value (Result w 0) carried) (λ x h. either x (same_value (Result w 0) x) h) o.operands all) ops (t.first_only v (inr among)))
    where
      of_carried : IsFirstOf v carried
      of_carried = carried_has (IsFirstOf v) w.index ops (λ is. cc) (t.first_only v (inr among))

      either : (x : Value) (b : Bool) → IsFirstOf v x → IsFirstOf v (cond b carried x)
      either x true h = of_carried
      either x false h = h

  -- the others stand together still
  pub others_together : StandTogether wires (taken_out w.index replaced)
  others_together = record {
    prefix = t.prefix;
    back = t.back;
    ids = others_ids;
    live = erased_live w.index replaced (replaced_live (Result w 0) carried ops (carried_has (IsLive (ids_in ops)) w.index ops tt t.live) t.live) wire_unused;
    first_only = others_first;
  }

  position_is : position_of (ids_in ops) w.index ≡ length t.prefix
  position_is =
      let back = ap (λ ids. position_of ids w.index) t.ids ∙ position_back t.prefix (w.index ∷ (numbers ++ t.back)) w.index none_before in
      let zero_is = position_self w.index (numbers ++ t.back) in
      omega (arith, back, zero_is)

  pub wire_erased : ops_by_position (taken_out w.index replaced)
      ≡ erase_op (position_of (ids_in ops) w.index) (operand_at (position_of (ids_in ops) w.index) (ops_by_position ops)) (ops_by_position ops)
  wire_erased = numbered_erase w carried ops t.live wire_there wire_unused ∙ erased_alike w.index ops found.0 found.1

-- the next one is where it was
next_position : (w : OpId) (wires : List OpId) (ops : List BodyOp) → AreDistinct (ids_in ops) → (t : StandTogether (w ∷ wires) ops) → (os : List Op)
    → unwire (first_position (t.prefix ++ (map (λ (i : OpId). i.index) wires ++ t.back)) wires) (length wires) os ≡ unwire (length t.prefix) (length wires) os
next_position w [] ops once t os = refl
next_position w (v ∷ wires) ops once t os =
    let numbers : List ℕ = map (λ (i : OpId). i.index) wires in
    let apart : AreDistinct (t.prefix ++ (w.index ∷ (v.index ∷ (numbers ++ t.back)))) = subst AreDistinct t.ids once in
    let few = apart v.index in
    let both = times-append v.index t.prefix (w.index ∷ (v.index ∷ (numbers ++ t.back))) in
    let own = times_self v.index (numbers ++ t.back) in
    let more = at_least v.index w.index (v.index ∷ (numbers ++ t.back)) in
    let none : times v.index t.prefix ≡ 0 = omega (arith, few, both, own, more) in
    let back = position_back t.prefix (v.index ∷ (numbers ++ t.back)) v.index none in
    let zero_is = position_self v.index (numbers ++ t.back) in
    let position : position_of (t.prefix ++ (v.index ∷ (numbers ++ t.back))) v.index ≡ length t.prefix = omega (arith, back, zero_is) in
    ap (λ n. unwire n (suc (length wires)) os) position
  where
    at_least : (x y : ℕ) (xs : List ℕ) → times x xs ≤ times x (y ∷ xs)
    at_least x y xs = go (nat_eq y x)
      where
        go : (b : Bool) → times x xs ≤ cond b (suc (times x xs)) (times x xs)
        go true = omega arith
        go false = omega arith

pub wire_out : (w : OpId) (wires : List OpId) (ops : List BodyOp) (once : AreDistinct (ids_in ops)) (t : StandTogether (w ∷ wires) ops)
    → unwire (first_position (ids_in (taken_out w.index (all_replaced (Result w 0) (carried_value w.index ops) ops))) wires) (length wires)
    (ops_by_position (taken_out w.index (all_replaced (Result w 0) (carried_value w.index ops) ops)))
    ≡ unwire (first_position (ids_in ops) (w ∷ wires)) (suc (length wires)) (ops_by_position ops)
wire_out w wires ops once t =
    ap (λ ids. unwire (first_position ids wires) (length wires) (ops_by_position (taken_out w.index (all_replaced (Result w 0) (carried_value w.index ops) ops)))) (others_ids w wires ops once t)
    ∙ next_position w wires ops once t (ops_by_position (taken_out w.index (all_replaced (Result w 0) (carried_value w.index ops) ops)))
    ∙ ap₂ (λ n os. unwire n (length wires) os) (sym (position_is w wires ops once t)) (wire_erased w wires ops once t)
