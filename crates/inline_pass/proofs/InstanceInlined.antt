-- A body once the operations of a module are put before its instance and that is taken out.
use Rattle.std.proofs.Common.{◌≡◌, ℕ, suc, ◌+◌, ◌≤◌, Bool, true, false, cond, nat_eq, List, [], ◌∷◌, ◌++◌, length, map, take, drop, slice_get, refl, sym, ap, ap₂, subst, ◌∙◌, arith}
use Rattle.std.specs.Prelude.{All, Contains}
use Rattle.std.proofs.lemmas.List.{map-append, length-map}
use Rattle.hw_model.specs.Types.{Name}
use Rattle.hw_model.specs.Design.{Op, Port, Module}
use Rattle.edit_laws.specs.Edit.{retarget}
use Rattle.linked_lists.specs.Ids.{times}
use Rattle.linked_lists.proofs.IdLemmas.{times-append, times_contained}
use Rattle.ir_store.specs.declared.operation.OpId.{OpId}
use Rattle.ir_store.specs.declared.operation.Value.{Value}
use Rattle.ir_store.specs.declared.operation.Value.TheVariants.{Undefined}
use Rattle.ir_store.specs.BodyOps.{BodyOp, ids_in, taken_out, is_of, IsUnused}
use Rattle.ir_store.specs.Live.{IsLive, HasLive, AreDistinct}
use Rattle.ir_store.specs.Numbered.{position_of, ref_by, op_by, ops_by_position}
use Rattle.ir_store.proofs.Living.{all_mapped, all_through, first_of_all, rest_of_all, all_with, all_none}
use Rattle.inline_laws.specs.Inline.{moved_count, wire_count, wire_ops, outer_ref, inner_ref, inline_op, inlined_between}
use Rattle.inline_laws.specs.Unwire.{unwire}
use Rattle.body_edits.specs.WiresOut.{value_or_undefined, IsFirstOf, StandTogether, first_position, ids_without}
use Rattle.inline_pass.specs.MovedOps.{ArePutBefore, copy_of, joined_values, moved_value, ops_before_output, output_values, results_replaced, with_ids, wires_of}
use Rattle.inline_pass.specs.Renaming.{renamed}
use Rattle.body_edits.proofs.IdLists.{ids_append, times_self}
use Rattle.inline_pass.proofs.PutInlined.{given_ids}
use Rattle.inline_pass.proofs.ResultsReplaced.{with_values, redirect, results_are, values_twice}
use Rattle.inline_pass.proofs.InliningForm.{form, inlined_form, out_form}
use Rattle.inline_pass.proofs.InliningValues.{numbers, old_ids, new_ids, IsOld, IsNew, old_new, moved_new}
use Rattle.inline_pass.proofs.InliningPositions.{outer_seen, inner_seen, first_stands, stood_at}
use Rattle.inline_pass.proofs.InliningOps.{before_seen, outputs_seen, ops_after, ops_seen, copies_seen, wires_seen, take_prefix, drop_prefix}
use Rattle.body_edits.proofs.WiresTakenOut.{all_left, remove_middle}

-- ---- all elements of joined lists

module _ {A : Type 0} (P : A → Type 0) where
  all_joined : (xs ys : List A) → All P xs → All P ys → All P (xs ++ ys)
  all_joined [] ys own others = others
  all_joined (x ∷ xs) ys own others = all_with P x (xs ++ ys) (first_of_all P x xs own) (all_joined xs ys (rest_of_all P x xs own) others)

  all_first : (xs ys : List A) → All P (xs ++ ys) → All P xs
  all_first [] ys all = all_none P
  all_first (x ∷ xs) ys all = all_with P x xs (first_of_all P x (xs ++ ys) all) (all_first xs ys (rest_of_all P x (xs ++ ys) all))

  all_second : (xs ys : List A) → All P (xs ++ ys) → All P ys
  all_second [] ys all = all
  all_second (x ∷ xs) ys all = all_second xs ys (rest_of_all P x (xs ++ ys) all)

-- ---- ids

ids_kept : (f : Value → Value) (os : List BodyOp) → ids_in (map (with_values f) os) ≡ ids_in os
ids_kept f [] = refl
ids_kept f (o ∷ os) = ap (λ ids. o.id ∷ ids) (ids_kept f os)

as_many_wires : (at : _) (xs : _) (vs : List Value) → length (wires_of at xs vs) ≡ length xs
as_many_wires at [] vs = refl
as_many_wires at (x ∷ xs) vs = ap suc (as_many_wires at xs (drop 1 vs))

at_least : (v y : ℕ) (xs : List ℕ) → times v xs ≤ times v (y ∷ xs)
at_least v y xs = go (nat_eq y v)
  where
    go : (b : Bool) → times v xs ≤ cond b (suc (times v xs)) (times v xs)
    go true = omega arith
    go false = omega arith

-- the ids without those of wires that stand together
pub wires_left : (prefix : List ℕ) (wires : List OpId) (back : List ℕ) → AreDistinct (prefix ++ (numbers wires ++ back)) → ids_without wires (prefix ++ (numbers wires ++ back)) ≡ prefix ++ back
wires_left prefix [] back once = refl
wires_left prefix (w ∷ wires) back once =
    let few = once w.index in
    let both = times-append w.index prefix (w.index ∷ (numbers wires ++ back)) in
    let own = times_self w.index (numbers wires ++ back) in
    let none : times w.index prefix ≡ 0 = omega (arith, few, both, own) in
    ap (ids_without wires) (remove_middle prefix w.index (numbers wires ++ back) none)
    ∙ wires_left prefix wires back (λ v.
    let one = once v in
    let all = times-append v prefix (w.index ∷ (numbers wires ++ back)) in
    let rest = times-append v prefix (numbers wires ++ back) in
    let more = at_least v w.index (numbers wires ++ back) in
    omega (arith, one, all, rest, more))

module _ (prefix : List BodyOp) (x : BodyOp) (back : List BodyOp) (op : OpId) (same : x.id ≡ op.index) (u : Name) (c0 : Module) (own : List BodyOp) (wires : List OpId) (after : List BodyOp)
    (put : ArePutBefore u c0.ports own x (prefix ++ (x ∷ back)) after wires) (once : AreDistinct (ids_in after)) where
  abbrev pub callee : Module
  callee = record c0 { body = ops_by_position own }

  abbrev pub ws : List BodyOp
  ws = with_ids wires (wires_of x.parts.location x.parts.results (output_values own))

  abbrev pub cs : List BodyOp
  cs = with_ids put.copies (map (copy_of u) (ops_before_output own))

  abbrev pub before_ids : List ℕ
  before_ids = ids_in (ops_before_output own)

  abbrev pub g : Value → Value
  g = moved_value (joined_values c0.ports x.operands) before_ids put.copies

  abbrev pub r : Value → Value
  r = redirect op 0 wires

  ws_ids : ids_in ws ≡ numbers wires
  ws_ids = given_ids wires (wires_of x.parts.location x.parts.results (output_values own)) (put.many_wires ∙ sym (as_many_wires x.parts.location x.parts.results (output_values own)))

  cs_ids : ids_in cs ≡ numbers put.copies
  cs_ids = given_ids put.copies (map (copy_of u) (ops_before_output own)) (put.many_copies ∙ sym (length-map (ops_before_output own) (copy_of u)))

  after_is : after ≡ prefix ++ (map (with_values g) ws ++ (map (with_values g) cs ++ (x ∷ back)))
  after_is = form prefix x back ws cs wires put.copies ws_ids cs_ids g after put.ops once

  pub apart : (v : ℕ) → times v (ids_in prefix) + (times v (numbers wires) + (times v (numbers put.copies) + times v (op.index ∷ ids_in back))) ≤ 1
  apart v =
      let few = once v in
      let whole = ap (λ (os : List BodyOp). times v (ids_in os)) after_is in
      let a = ap (times v) (ids_append prefix (map (with_values g) ws ++ (map (with_values g) cs ++ (x ∷ back))))
      ∙ times-append v (ids_in prefix) (ids_in (map (with_values g) ws ++ (map (with_values g) cs ++ (x ∷ back)))) in
      let b = ap (times v) (ids_append (map (with_values g) ws) (map (with_values g) cs ++ (x ∷ back)))
      ∙ times-append v (ids_in (map (with_values g) ws)) (ids_in (map (with_values g) cs ++ (x ∷ back))) in
      let d = ap (times v) (ids_append (map (with_values g) cs) (x ∷ back)) ∙ times-append v (ids_in (map (with_values g) cs)) (x.id ∷ ids_in back) in
      let w = ap (times v) (ids_kept g ws ∙ ws_ids) in
      let e = ap (times v) (ids_kept g cs ∙ cs_ids) in
      let o = ap (λ n. times v (n ∷ ids_in back)) same in
      omega (arith, few, whole, a, b, d, w, e, o)

  abbrev pub Old : Value → Type 0
  Old = IsOld (ids_in prefix) op (ids_in back) wires put.copies apart

  abbrev pub New : Value → Type 0
  New = IsNew (ids_in prefix) op (ids_in back) wires put.copies apart

  abbrev pub AllNew : List BodyOp → Type 0
  AllNew os = All (λ (o : BodyOp). All New o.operands) os

  abbrev pub out : List BodyOp
  out = taken_out op.index (results_replaced op 0 wires after)

  abbrev pub left_form : List BodyOp
  left_form = inlined_form prefix ws cs back g r

  none_left : times x.id (ids_in (map (with_values r) (prefix ++ (map (with_values g) ws ++ map (with_values g) cs)))) ≡ 0
  none_left =
      let few = apart x.id in
      let own_one = ap (λ n. times x.id (n ∷ ids_in back)) (sym same) ∙ times_self x.id (ids_in back) in
      let a = ap (times x.id) (ids_kept r (prefix ++ (map (with_values g) ws ++ map (with_values g) cs)) ∙ ids_append prefix (map (with_values g) ws ++ map (with_values g) cs))
      ∙ times-append x.id (ids_in prefix) (ids_in (map (with_values g) ws ++ map (with_values g) cs)) in
      let b = ap (times x.id) (ids_append (map (with_values g) ws) (map (with_values g) cs)) ∙ times-append x.id (ids_in (map (with_values g) ws)) (ids_in (map (with_values g) cs)) in
      let w = ap (times x.id) (ids_kept g ws ∙ ws_ids) in
      let e = ap (times x.id) (ids_kept g cs ∙ cs_ids) in
      omega (arith, few, own_one, a, b, w, e)

  replaced_is : results_replaced op 0 wires after ≡ map (with_values r) (prefix ++ (map (with_values g) ws ++ (map (with_values g) cs ++ (x ∷ back))))
  replaced_is = results_are op 0 wires after ∙ ap (map (with_values r)) after_is

  -- what is left
  pub out_is : out ≡ left_form
  out_is = ap (λ n. taken_out n (results_replaced op 0 wires after)) (sym same) ∙ ap (taken_out x.id) replaced_is ∙ out_form prefix x back ws cs g r none_left

  left_ids : ids_in left_form ≡ new_ids (ids_in prefix) op (ids_in back) wires put.copies apart
  left_ids =
      ids_append (map (with_values r) prefix) (map (with_values (λ v. r (g v))) ws ++ (map (with_values (λ v. r (g v))) cs ++ map (with_values r) back))
      ∙ ap₂ (λ ps qs. ps ++ qs) (ids_kept r prefix)
      (ids_append (map (with_values (λ v. r (g v))) ws) (map (with_values (λ v. r (g v))) cs ++ map (with_values r) back)
      ∙ ap₂ (λ ps qs. ps ++ qs) (ids_kept (λ v. r (g v)) ws ∙ ws_ids)
      (ids_append (map (with_values (λ v. r (g v))) cs) (map (with_values r) back)
      ∙ ap₂ (λ ps qs. ps ++ qs) (ids_kept (λ v. r (g v)) cs ∙ cs_ids) (ids_kept r back)))

  pub out_ids : ids_in out ≡ new_ids (ids_in prefix) op (ids_in back) wires put.copies apart
  out_ids = ap ids_in out_is ∙ left_ids

  -- ---- where the operands of the body as it was were there

  module _ (olds : All (λ (o : BodyOp). All (IsOld (ids_in prefix) op (ids_in back) wires put.copies apart) o.operands) (prefix ++ (x ∷ back))) where
    x_olds : All Old x.operands
    x_olds = first_of_all (λ (o : BodyOp). All Old o.operands) x back (all_second (λ (o : BodyOp). All Old o.operands) prefix (x ∷ back) olds)

    joined_olds : (ps : List Port) (vs : List Value) → All Old vs → All Old (joined_values ps vs)
    joined_olds [] vs all = all_none Old
    joined_olds (p ∷ ps) vs all = go p.is_output vs all (λ ws each. joined_olds ps ws each)
      where
        nothing : Old Undefined
        nothing = record { live = tt; within = λ id k is. cc }

        go : (b : Bool) (vs : List Value) → All Old vs → ((ws : List Value) → All Old ws → All Old (joined_values ps ws))
            → All Old (cond b (Undefined ∷ joined_values ps vs) (value_or_undefined (slice_get vs 0) ∷ joined_values ps (drop 1 vs)))
        go true vs all rest = all_with Old Undefined (joined_values ps vs) nothing (rest vs all)
        go false [] all rest = all_with Old Undefined (joined_values ps []) nothing (rest [] all)
        go false (v ∷ vs) all rest = all_with Old v (joined_values ps vs) (first_of_all Old v vs all) (rest vs (rest_of_all Old v vs all))

    inner_new : (v : Value) → New (r (g v))
    inner_new v = moved_new (ids_in prefix) op (ids_in back) wires put.copies apart (joined_values c0.ports x.operands) before_ids (joined_olds c0.ports x.operands x_olds) v

    of_olds : (os : List BodyOp) → All (λ (o : BodyOp). All Old o.operands) os → AllNew (map (with_values r) os)
    of_olds os all = all_mapped (λ (o : BodyOp). All Old o.operands) (λ (o : BodyOp). All New o.operands) (with_values r)
        (λ o each. all_mapped Old New r (λ v old. old_new (ids_in prefix) op (ids_in back) wires put.copies apart v old) o.operands each) os all

    of_any : (os : List BodyOp) → AllNew (map (with_values r) (map (with_values g) os))
    of_any os = subst AllNew (sym (values_twice r g os)) (go os)
      where
        values : (vs : List Value) → All New (map (λ v. r (g v)) vs)
        values [] = all_none New
        values (v ∷ vs) = all_with New (r (g v)) (map (λ w. r (g w)) vs) (inner_new v) (values vs)

        go : (os : List BodyOp) → AllNew (map (with_values (λ v. r (g v))) os)
        go [] = all_none (λ (o : BodyOp). All New o.operands)
        go (o ∷ os) = all_with (λ (o : BodyOp). All New o.operands) (with_values (λ v. r (g v)) o) (map (with_values (λ v. r (g v))) os) (values o.operands) (go os)

    -- no operand of the new body is a result of the instance, and each is there
    all_new : AllNew (results_replaced op 0 wires after)
    all_new =
        let P : BodyOp → Type 0 = λ o. All New o.operands in
        let Q : BodyOp → Type 0 = λ o. All Old o.operands in
        subst AllNew (sym (replaced_is ∙ map-append (with_values r) prefix (map (with_values g) ws ++ (map (with_values g) cs ++ (x ∷ back)))
        ∙ ap (λ os. map (with_values r) prefix ++ os) (map-append (with_values r) (map (with_values g) ws) (map (with_values g) cs ++ (x ∷ back))
        ∙ ap (λ os. map (with_values r) (map (with_values g) ws) ++ os) (map-append (with_values r) (map (with_values g) cs) (x ∷ back)))))
        (all_joined P (map (with_values r) prefix) (map (with_values r) (map (with_values g) ws) ++ (map (with_values r) (map (with_values g) cs) ++ map (with_values r) (x ∷ back)))
        (of_olds prefix (all_first Q prefix (x ∷ back) olds))
        (all_joined P (map (with_values r) (map (with_values g) ws)) (map (with_values r) (map (with_values g) cs) ++ map (with_values r) (x ∷ back)) (of_any ws)
        (all_joined P (map (with_values r) (map (with_values g) cs)) (map (with_values r) (x ∷ back)) (of_any cs) (of_olds (x ∷ back) (all_second Q prefix (x ∷ back) olds)))))

    pub unused : IsUnused op.index (results_replaced op 0 wires after)
    unused = all_through (λ (o : BodyOp). All New o.operands) (λ (o : BodyOp). All (λ v. is_of op.index v ≡ false) o.operands)
        (λ o all. all_through New (λ v. is_of op.index v ≡ false) (λ v new. new.other) o.operands all) (results_replaced op 0 wires after) all_new

    out_new : AllNew out
    out_new = all_left (λ (o : BodyOp). All New o.operands) op.index (results_replaced op 0 wires after) all_new

    pub together : StandTogether wires out
    together = record {
      prefix = ids_in prefix;
      back = numbers put.copies ++ ids_in back;
      ids = out_ids;
      live = subst (λ ids. All (HasLive ids) out) (sym out_ids)
          (all_through (λ (o : BodyOp). All New o.operands) (HasLive (new_ids (ids_in prefix) op (ids_in back) wires put.copies apart))
          (λ o all. all_through New (IsLive (new_ids (ids_in prefix) op (ids_in back) wires put.copies apart)) (λ v new. new.live) o.operands all) out out_new);
      first_only = λ w among. all_through (λ (o : BodyOp). All New o.operands) (λ (o : BodyOp). All (IsFirstOf w) o.operands)
          (λ o all. all_through New (IsFirstOf w) (λ v new. new.first w among) o.operands all) out out_new;
    }

    -- ---- by positions

    abbrev pub old_position : ℕ → ℕ
    old_position = position_of (old_ids (ids_in prefix) op (ids_in back) wires put.copies apart)

    abbrev pub new_position : ℕ → ℕ
    new_position = position_of (new_ids (ids_in prefix) op (ids_in back) wires put.copies apart)

    abbrev pub o : Op
    o = op_by old_position x

    abbrev pub i : ℕ
    i = length (ids_in prefix)

    many_copies : length put.copies ≡ moved_count callee
    many_copies = put.many_copies ∙ sym (length-map (ops_before_output own) (op_by (position_of (ids_in own)))) ∙ sym (ap length (before_seen (position_of (ids_in own)) own))

    own_ids : before_ids ++ ids_in (ops_after own).0 ≡ ids_in own
    own_ids = sym (ids_append (ops_before_output own) (ops_after own).0) ∙ ap ids_in (sym (ops_after own).1)

    inner_is : (v : Value) → ref_by new_position (r (g v)) ≡ inner_ref i o callee (ref_by (position_of (ids_in own)) v)
    inner_is v =
        inner_seen (ids_in prefix) op (ids_in back) wires put.copies apart o callee put.many_wires many_copies x.operands x_olds refl before_ids (ids_in (ops_after own).0)
        (length-map (ops_before_output own) (λ (y : BodyOp). y.id) ∙ sym put.many_copies) v
        ∙ ap (λ ids. inner_ref i o callee (ref_by (position_of ids) v)) own_ids

    outer_are : (os : List BodyOp) → All (λ (o : BodyOp). All Old o.operands) os → map (op_by new_position) (map (with_values r) os) ≡ map (retarget (outer_ref i o callee)) (map (op_by old_position) os)
    outer_are os all =
        ops_seen new_position old_position r (outer_ref i o callee) os
        (all_through (λ (y : BodyOp). All Old y.operands) (λ (y : BodyOp). All (λ v. ref_by new_position (r v) ≡ outer_ref i o callee (ref_by old_position v)) y.operands)
        (λ y each. all_through Old (λ v. ref_by new_position (r v) ≡ outer_ref i o callee (ref_by old_position v))
        (λ v old. outer_seen (ids_in prefix) op (ids_in back) wires put.copies apart o callee put.many_wires many_copies v old) y.operands each) os all)

    pub out_seen : map (op_by new_position) left_form ≡ inline_op (renamed u) i o callee (map (op_by old_position) (prefix ++ (x ∷ back)))
    out_seen =
        let Q : BodyOp → Type 0 = λ y. All Old y.operands in
        let h : Value → Value = λ v. r (g v) in
        map-append (op_by new_position) (map (with_values r) prefix) (map (with_values h) ws ++ (map (with_values h) cs ++ map (with_values r) back))
        ∙ ap₂ (λ ps qs. ps ++ qs) (outer_are prefix (all_first Q prefix (x ∷ back) olds))
        (map-append (op_by new_position) (map (with_values h) ws) (map (with_values h) cs ++ map (with_values r) back)
        ∙ ap₂ (λ ps qs. ps ++ qs)
        (wires_seen new_position (position_of (ids_in own)) h (inner_ref i o callee) refl inner_is x.parts.location wires x.parts.results (output_values own) put.many_wires
        ∙ ap (wire_ops x.parts.location (inner_ref i o callee) x.parts.results) (sym (outputs_seen (position_of (ids_in own)) own)))
        (map-append (op_by new_position) (map (with_values h) cs) (map (with_values r) back)
        ∙ ap₂ (λ ps qs. ps ++ qs)
        (copies_seen new_position (position_of (ids_in own)) h (inner_ref i o callee) u inner_is put.copies (ops_before_output own) put.many_copies
        ∙ ap (map (λ (y : Op). renamed u (retarget (inner_ref i o callee) y))) (sym (before_seen (position_of (ids_in own)) own)))
        (outer_are back (rest_of_all Q x back (all_second Q prefix (x ∷ back) olds)))))
        ∙ ap₂ (λ ps qs. inlined_between (renamed u) i o callee ps qs) (sym prefix_is) (sym back_is)
      where
        long : length (ids_in prefix) ≡ length (map (op_by old_position) prefix)
        long = length-map prefix (λ (y : BodyOp). y.id) ∙ sym (length-map prefix (op_by old_position))

        whole : map (op_by old_position) (prefix ++ (x ∷ back)) ≡ map (op_by old_position) prefix ++ (o ∷ map (op_by old_position) back)
        whole = map-append (op_by old_position) prefix (x ∷ back)

        prefix_is : take i (map (op_by old_position) (prefix ++ (x ∷ back))) ≡ map (op_by old_position) prefix
        prefix_is = ap₂ (λ n os. take n os) long whole ∙ take_prefix (map (op_by old_position) prefix) (o ∷ map (op_by old_position) back)

        back_is : drop (suc i) (map (op_by old_position) (prefix ++ (x ∷ back))) ≡ map (op_by old_position) back
        back_is = ap₂ (λ n os. drop (suc n) os) long whole ∙ drop_prefix (map (op_by old_position) prefix) o (map (op_by old_position) back)

    -- with the wires taken out
    pub finished : unwire (first_position (ids_in out) wires) (length wires) (ops_by_position out) ≡ unwire i (wire_count o) (inline_op (renamed u) i o callee (map (op_by old_position) (prefix ++ (x ∷ back))))
    finished =
        ap (λ ids. unwire (first_position ids wires) (length wires) (ops_by_position out)) out_ids
        ∙ first_stands (ids_in prefix) op (ids_in back) wires put.copies apart o callee put.many_wires many_copies (ops_by_position out)
        ∙ ap₂ (λ n os. unwire i n os) put.many_wires (ap ops_by_position out_is ∙ ap (λ ids. map (op_by (position_of ids)) left_form) left_ids ∙ out_seen)

    pub stood : position_of (old_ids (ids_in prefix) op (ids_in back) wires put.copies apart) op.index ≡ i
    stood = stood_at (ids_in prefix) op (ids_in back) wires put.copies apart o callee put.many_wires many_copies

    pub many_moved : length (numbers put.copies) ≡ moved_count callee
    many_moved = length-map put.copies (λ (j : OpId). j.index) ∙ many_copies

  new_distinct : AreDistinct (new_ids (ids_in prefix) op (ids_in back) wires put.copies apart)
  new_distinct v =
      let few = apart v in
      let a = times-append v (ids_in prefix) (numbers wires ++ (numbers put.copies ++ ids_in back)) in
      let b = times-append v (numbers wires) (numbers put.copies ++ ids_in back) in
      let d = times-append v (numbers put.copies) (ids_in back) in
      let more = at_least v op.index (ids_in back) in
      omega (arith, few, a, b, d, more)

  pub finished_ids : ids_without wires (ids_in out) ≡ ids_in prefix ++ (numbers put.copies ++ ids_in back)
  finished_ids = ap (ids_without wires) out_ids ∙ wires_left (ids_in prefix) wires (numbers put.copies ++ ids_in back) new_distinct

  -- the instance is there until then
  pub still_there : Contains (ids_in (results_replaced op 0 wires after)) op.index
  still_there =
      let whole = ap (λ (os : List BodyOp). times op.index (ids_in os)) (results_are op 0 wires after) ∙ ap (times op.index) (ids_kept r after ∙ ap ids_in after_is) in
      let a = ap (times op.index) (ids_append prefix (map (with_values g) ws ++ (map (with_values g) cs ++ (x ∷ back))))
      ∙ times-append op.index (ids_in prefix) (ids_in (map (with_values g) ws ++ (map (with_values g) cs ++ (x ∷ back)))) in
      let b = ap (times op.index) (ids_append (map (with_values g) ws) (map (with_values g) cs ++ (x ∷ back)))
      ∙ times-append op.index (ids_in (map (with_values g) ws)) (ids_in (map (with_values g) cs ++ (x ∷ back))) in
      let d = ap (times op.index) (ids_append (map (with_values g) cs) (x ∷ back)) ∙ times-append op.index (ids_in (map (with_values g) cs)) (x.id ∷ ids_in back) in
      let own_one = ap (λ n. times op.index (n ∷ ids_in back)) same ∙ times_self op.index (ids_in back) in
      times_contained (ids_in (results_replaced op 0 wires after)) op.index (omega (arith, whole, a, b, d, own_one))
