-- Values of a body in which an instance is inlined, by positions.
use Rattle.std.proofs.Common.{◌≡◌, ℕ, zero, suc, ◌+◌, ◌<◌, ◌≤◌, Bool, true, false, nat_eq, cond, List, [], ◌∷◌, ◌++◌, length, map, take, drop, get_or, Option, Some, None, slice_get, refl, sym, ap, ◌∙◌, inl, inr, arith, option_map}
use Rattle.std.specs.Prelude.{◌⊎◌, All}
use Rattle.std.proofs.lemmas.Bool.{eqb-true, eqb-false}
use Rattle.std.proofs.lemmas.List.{length-map}
use Rattle.std.proofs.lemmas.Option.{slice_get_past, slice_get_within}
use Rattle.wiring.proofs.Members.{In-slice_get}
use Rattle.hw_model.specs.Design.{Ref, Op, OpResult, Port as HwPort, Module}
use Rattle.hw_model.specs.Design.Ref.{result, undefined}
use Rattle.hw_model.specs.Flat.{port_ref, operand_for, input_count}
use Rattle.ir_store.specs.declared.operation.OpId.{OpId}
use Rattle.ir_store.specs.declared.operation.Value.{Value}
use Rattle.ir_store.specs.declared.operation.Value.TheVariants.{Port, Result, Undefined}
use Rattle.ir_store.specs.Numbered.{position_of, ref_by}
use Rattle.ir_store.proofs.Living.{first_of_all, rest_of_all}
use Rattle.body_index.proofs.PositionTables.{position_found}
use Rattle.linked_lists.specs.Ids.{times}
use Rattle.linked_lists.proofs.IdLemmas.{contained_times, times-append}
use Rattle.inline_laws.specs.Inline.{side, ref_or_undefined, wire_count, moved_count, wire_result, outer_result, outer_ref, inner_result, inner_ref}
use Rattle.inline_laws.proofs.Sides.{side_prefix, side_back}
use Rattle.inline_laws.specs.Unwire.{unwire}
use Rattle.body_edits.specs.WiresOut.{first_position, value_or_undefined}
use Rattle.inline_pass.specs.MovedOps.{joined_values, moved_value, copy_result}
use Rattle.body_edits.proofs.IdLists.{times_self, times_other, position_prefix, position_below, position_back, position_self, position_next}
use Rattle.inline_pass.proofs.InliningValues.{numbers, old_ids, new_ids, IsOld, wires_other, copies_other}
use Rattle.inline_pass.proofs.ResultsReplaced.{redirect, redirect_other, redirect_result, not_of}

none_or_some : (n : ℕ) → (n ≡ 0) ⊎ (0 < n)
none_or_some zero = inl refl
none_or_some (suc n) = inr (omega arith)

there_at : {A : Type 0} (xs : List A) (k : ℕ) → k < length xs → (x : A) × (slice_get xs k ≡ Some x)
there_at [] k below = absurd (omega (arith, below))
there_at (x ∷ xs) zero below = (x, refl)
there_at (x ∷ xs) (suc k) below = there_at xs k (omega (arith, below))

-- ---- what is joined to a port

operand_next : (x : Option HwPort) (rs : List Ref) (n : ℕ) → operand_for x rs (suc n) ≡ operand_for x (drop 1 rs) n
operand_next None rs n = refl
operand_next (Some p) [] n = refl
operand_next (Some p) (r ∷ rs) n = refl

pub joined_seen : (F : Value → Ref) (G : Ref → Ref) (h : Value → Ref) → F Undefined ≡ undefined → (ps : List HwPort) (vs : List Value) → All (λ v. F v ≡ G (h v)) vs → (j : ℕ)
    → F (value_or_undefined (slice_get (joined_values ps vs) j)) ≡ ref_or_undefined (option_map G (port_ref ps (map h vs) j))
joined_seen F G h none [] vs all j = none
joined_seen F G h none (p ∷ ps) vs all zero = go p.is_output vs all
  where
    go : (b : Bool) (vs : List Value) → All (λ v. F v ≡ G (h v)) vs
        → F (value_or_undefined (slice_get (cond b (Undefined ∷ joined_values ps vs) (value_or_undefined (slice_get vs 0) ∷ joined_values ps (drop 1 vs))) 0))
        ≡ ref_or_undefined (option_map G (cond b None (slice_get (map h vs) 0)))
    go true vs all = none
    go false [] all = none
    go false (v ∷ vs) all = first_of_all (λ v. F v ≡ G (h v)) v vs all
joined_seen F G h none (p ∷ ps) vs all (suc j) = go p.is_output vs all (λ ws each. joined_seen F G h none ps ws each j)
  where
    go : (b : Bool) (vs : List Value) → All (λ v. F v ≡ G (h v)) vs
        → ((ws : List Value) → All (λ v. F v ≡ G (h v)) ws → F (value_or_undefined (slice_get (joined_values ps ws) j)) ≡ ref_or_undefined (option_map G (port_ref ps (map h ws) j)))
        → F (value_or_undefined (slice_get (cond b (Undefined ∷ joined_values ps vs) (value_or_undefined (slice_get vs 0) ∷ joined_values ps (drop 1 vs))) (suc j)))
        ≡ ref_or_undefined (option_map G (operand_for (slice_get ps j) (map h vs) (cond b (input_count (take j ps)) (suc (input_count (take j ps))))))
    go true vs all rest = rest vs all
    go false [] all rest = rest [] all ∙ ap (λ r. ref_or_undefined (option_map G r)) (sym (operand_next (slice_get ps j) [] (input_count (take j ps))))
    go false (v ∷ vs) all rest =
        rest vs (rest_of_all (λ v. F v ≡ G (h v)) v vs all)
        ∙ ap (λ r. ref_or_undefined (option_map G r)) (sym (operand_next (slice_get ps j) (map h (v ∷ vs)) (input_count (take j ps))))

-- ---- values

module _ (prefix : List ℕ) (op : OpId) (back : List ℕ) (wires copies : List OpId)
    (apart : (v : ℕ) → times v prefix + (times v (numbers wires) + (times v (numbers copies) + times v (op.index ∷ back))) ≤ 1)
    (o : Op) (c : Module) (many_wires : length wires ≡ wire_count o) (many_copies : length copies ≡ moved_count c) where
  wires_long : length (numbers wires) ≡ wire_count o
  wires_long = length-map wires (λ (i : OpId). i.index) ∙ many_wires

  copies_long : length (numbers copies) ≡ moved_count c
  copies_long = length-map copies (λ (i : OpId). i.index) ∙ many_copies

  number_at : (ids : List OpId) (k : ℕ) (w : OpId) → slice_get ids k ≡ Some w → slice_get (numbers ids) k ≡ Some w.index
  number_at [] k w at = cc
  number_at (y ∷ ids) zero w at = let same : y ≡ w = cc in ap (λ (z : OpId). Some z.index) same
  number_at (y ∷ ids) (suc k) w at = number_at ids k w at

  counted_at : (ids : List ℕ) (k v : ℕ) → slice_get ids k ≡ Some v → 0 < times v ids
  counted_at [] k v at = cc
  counted_at (y ∷ ids) zero v at = let same : y ≡ v = cc in let own = ap (λ n. times v (n ∷ ids)) same ∙ times_self v ids in omega (arith, own)
  counted_at (y ∷ ids) (suc k) v at = let rest = counted_at ids k v at in more (nat_eq y v) rest
    where
      more : (b : Bool) → 0 < times v ids → 0 < cond b (suc (times v ids)) (times v ids)
      more true h = omega arith
      more false h = h

  -- a wire
  wire_position : (k : ℕ) (w : OpId) → slice_get wires k ≡ Some w → position_of (new_ids prefix op back wires copies apart) w.index ≡ length prefix + k
  wire_position k w at =
      let here = number_at wires k w at in
      let some = counted_at (numbers wires) k w.index here in
      let few = apart w.index in
      let none : times w.index prefix ≡ 0 = omega (arith, some, few) in
      let past = position_back prefix (numbers wires ++ (numbers copies ++ back)) w.index none in
      let first = position_prefix (numbers wires) (numbers copies ++ back) w.index some in
      let found = position_found (numbers wires) w.index k (omega (arith, few)) here in
      omega (arith, past, first, found)

  -- a copy
  copy_position : (k : ℕ) (w : OpId) → slice_get copies k ≡ Some w → position_of (new_ids prefix op back wires copies apart) w.index ≡ length prefix + (wire_count o + k)
  copy_position k w at =
      let here = number_at copies k w at in
      let some = counted_at (numbers copies) k w.index here in
      let few = apart w.index in
      let none : times w.index prefix ≡ 0 = omega (arith, some, few) in
      let no_wire : times w.index (numbers wires) ≡ 0 = omega (arith, some, few) in
      let past = position_back prefix (numbers wires ++ (numbers copies ++ back)) w.index none in
      let next = position_back (numbers wires) (numbers copies ++ back) w.index no_wire in
      let first = position_prefix (numbers copies) back w.index some in
      let found = position_found (numbers copies) w.index k (omega (arith, few)) here in
      omega (arith, past, next, first, found, wires_long)

  -- the instance itself
  own_position : position_of (old_ids prefix op back wires copies apart) op.index ≡ length prefix + 0
  own_position =
      let few = apart op.index in
      let own = times_self op.index back in
      let none : times op.index prefix ≡ 0 = omega (arith, few, own) in
      position_back prefix (op.index ∷ back) op.index none ∙ ap (λ n. length prefix + n) (position_self op.index back)

  outer_of_op : (k : ℕ) (w : OpId) → slice_get wires k ≡ Some w → result (length prefix + k) 0 ≡ outer_result (length prefix) o c k (side (length prefix) (length prefix + 0))
  outer_of_op k w at =
      let within = slice_get_within wires k w at in
      let one = there_at o.results k (omega (arith, within, many_wires)) in
      sym (ap (outer_result (length prefix) o c k) (side_back (length prefix) 0) ∙ ap (wire_result (length prefix) k) (ap (option_map (λ (x : OpResult). x.type)) one.1))

  -- a value that the body had
  pub outer_seen : (v : Value) → IsOld prefix op back wires copies apart v
      → ref_by (position_of (new_ids prefix op back wires copies apart)) (redirect op 0 wires v) ≡ outer_ref (length prefix) o c (ref_by (position_of (old_ids prefix op back wires copies apart)) v)
  outer_seen (Port n) old = ap (ref_by (position_of (new_ids prefix op back wires copies apart))) (redirect_other op 0 wires (Port n) refl)
  outer_seen Undefined old = ap (ref_by (position_of (new_ids prefix op back wires copies apart))) (redirect_other op 0 wires Undefined refl)
  outer_seen (Result id k) old = go (nat_eq id.index op.index) refl
    where
      of_prefix : (id.index ≡ op.index → ⊥) → 0 < times id.index prefix
          → position_of (new_ids prefix op back wires copies apart) id.index ≡ position_of prefix id.index
      of_prefix other some = position_prefix prefix (numbers wires ++ (numbers copies ++ back)) id.index some

      in_back : (id.index ≡ op.index → ⊥) → times id.index prefix ≡ 0 → 0 < times id.index back
      in_back other none =
          let here = contained_times (old_ids prefix op back wires copies apart) id.index old.live in
          let both = times-append id.index prefix (op.index ∷ back) in
          let past = times_other id.index op.index back (λ same. other (sym same)) in
          omega (arith, here, both, past, none)

      of_back : (id.index ≡ op.index → ⊥) → times id.index prefix ≡ 0
          → position_of (new_ids prefix op back wires copies apart) id.index ≡ length prefix + (wire_count o + (moved_count c + position_of back id.index))
      of_back other none =
          let some = in_back other none in
          let few = apart id.index in
          let past = times_other id.index op.index back (λ same. other (sym same)) in
          let no_wire : times id.index (numbers wires) ≡ 0 = omega (arith, some, few, past) in
          let no_copy : times id.index (numbers copies) ≡ 0 = omega (arith, some, few, past) in
          let a = position_back prefix (numbers wires ++ (numbers copies ++ back)) id.index none in
          let b = position_back (numbers wires) (numbers copies ++ back) id.index no_wire in
          let d = position_back (numbers copies) back id.index no_copy in
          omega (arith, a, b, d, wires_long, copies_long)

      others : (id.index ≡ op.index → ⊥) → (times id.index prefix ≡ 0) ⊎ (0 < times id.index prefix)
          → result (position_of (new_ids prefix op back wires copies apart) id.index) k
          ≡ outer_result (length prefix) o c k (side (length prefix) (position_of (old_ids prefix op back wires copies apart) id.index))
      others other (inl none) =
          let old_position = position_back prefix (op.index ∷ back) id.index none ∙ ap (λ n. length prefix + n) (position_next op.index id.index back (λ same. other (sym same))) in
          ap (λ n. result n k) (of_back other none)
          ∙ sym (ap (λ n. outer_result (length prefix) o c k (side (length prefix) n)) old_position ∙ ap (outer_result (length prefix) o c k) (side_back (length prefix) (suc (position_of back id.index))))
      others other (inr some) =
          ap (λ n. result n k) (of_prefix other some)
          ∙ sym (ap (λ n. outer_result (length prefix) o c k (side (length prefix) n)) (position_prefix prefix (op.index ∷ back) id.index some)
          ∙ ap (outer_result (length prefix) o c k) (side_prefix (length prefix) (position_of prefix id.index) (position_below prefix id.index some)))

      go : (b : Bool) → nat_eq id.index op.index ≡ b → ref_by (position_of (new_ids prefix op back wires copies apart)) (redirect op 0 wires (Result id k))
          ≡ outer_result (length prefix) o c k (side (length prefix) (position_of (old_ids prefix op back wires copies apart) id.index))
      go true is =
          let same = eqb-true id.index op.index is in
          let w = there_at wires k (old.within id k refl same) in
          let zero_add : 0 + k ≡ k = omega arith in
          ap (ref_by (position_of (new_ids prefix op back wires copies apart)))
          (ap (λ n. redirect op 0 wires (Result id n)) (sym zero_add) ∙ redirect_result op 0 wires k w.0 id (wires_other prefix op back wires copies apart) w.1 same)
          ∙ ap (λ n. result n 0) (wire_position k w.0 w.1) ∙ outer_of_op k w.0 w.1
          ∙ sym (ap (λ n. outer_result (length prefix) o c k (side (length prefix) n)) (ap (position_of (old_ids prefix op back wires copies apart)) same ∙ own_position))
      go false is =
          ap (ref_by (position_of (new_ids prefix op back wires copies apart))) (redirect_other op 0 wires (Result id k) is)
          ∙ others (eqb-false id.index op.index is) (none_or_some (times id.index prefix))

  -- the first of the wires stands where the instance stood
  pub first_stands : (os : List Op) → unwire (first_position (new_ids prefix op back wires copies apart) wires) (length wires) os ≡ unwire (length prefix) (length wires) os
  first_stands os = go wires refl
    where
      go : (ws : List OpId) → wires ≡ ws → unwire (first_position (new_ids prefix op back wires copies apart) ws) (length ws) os ≡ unwire (length prefix) (length ws) os
      go [] is = refl
      go (w ∷ ws) is =
          let at : slice_get wires 0 ≡ Some w = ap (λ (ys : List OpId). slice_get ys 0) is in
          let position : position_of (new_ids prefix op back wires copies apart) w.index ≡ length prefix = (let p = wire_position 0 w at in omega (arith, p)) in
          ap (λ n. unwire n (suc (length ws)) os) position

  -- the instance stood there
  pub stood_at : position_of (old_ids prefix op back wires copies apart) op.index ≡ length prefix
  stood_at = let p = own_position in omega (arith, p)

  -- a value of the module
  module _ (vs : List Value) (all : All (IsOld prefix op back wires copies apart) vs)
      (operands_are : o.operands ≡ map (ref_by (position_of (old_ids prefix op back wires copies apart))) vs) (ids rest : List ℕ) (ids_long : length ids ≡ length copies) where
    nothing : ref_by (position_of (new_ids prefix op back wires copies apart)) (redirect op 0 wires Undefined) ≡ undefined
    nothing = ap (ref_by (position_of (new_ids prefix op back wires copies apart))) (redirect_other op 0 wires Undefined refl)

    pub inner_seen : (v : Value) → ref_by (position_of (new_ids prefix op back wires copies apart)) (redirect op 0 wires (moved_value (joined_values c.ports vs) ids copies v))
        ≡ inner_ref (length prefix) o c (ref_by (position_of (ids ++ rest)) v)
    inner_seen Undefined = nothing
    inner_seen (Port j) =
        joined_seen (λ v. ref_by (position_of (new_ids prefix op back wires copies apart)) (redirect op 0 wires v)) (outer_ref (length prefix) o c)
        (ref_by (position_of (old_ids prefix op back wires copies apart))) nothing c.ports vs
        (λ k d below. outer_seen (get_or vs k d) (all k d below)) j
        ∙ ap (λ (rs : List Ref). ref_or_undefined (option_map (outer_ref (length prefix) o c) (port_ref c.ports rs j))) (sym operands_are)
    inner_seen (Result id k) = go (none_or_some (times id.index ids))
      where
        go : (times id.index ids ≡ 0) ⊎ (0 < times id.index ids)
            → ref_by (position_of (new_ids prefix op back wires copies apart)) (redirect op 0 wires (copy_result (slice_get copies (position_of ids id.index)) k))
            ≡ inner_result (length prefix) o k (side (moved_count c) (position_of (ids ++ rest) id.index))
        go (inr some) =
            let below = position_below ids id.index some in
            let one = there_at copies (position_of ids id.index) (omega (arith, below, ids_long)) in
            let among = In-slice_get one.0 copies (position_of ids id.index) one.1 in
            ap (λ x. ref_by (position_of (new_ids prefix op back wires copies apart)) (redirect op 0 wires (copy_result x k))) one.1
            ∙ ap (ref_by (position_of (new_ids prefix op back wires copies apart)))
            (redirect_other op 0 wires (Result one.0 k) (not_of op one.0 k (copies_other prefix op back wires copies apart one.0 among)))
            ∙ ap (λ n. result n k) (copy_position (position_of ids id.index) one.0 one.1)
            ∙ sym (ap (λ n. inner_result (length prefix) o k (side (moved_count c) n)) (position_prefix ids rest id.index some)
            ∙ ap (inner_result (length prefix) o k) (side_prefix (moved_count c) (position_of ids id.index) (omega (arith, below, ids_long, many_copies))))
        go (inl none) =
            let past = position_back ids rest id.index none in
            let missing = absent ids none in
            let at : position_of (ids ++ rest) id.index ≡ moved_count c + position_of rest id.index = omega (arith, past, ids_long, many_copies) in
            ap (λ x. ref_by (position_of (new_ids prefix op back wires copies apart)) (redirect op 0 wires (copy_result x k)))
            (slice_get_past copies (position_of ids id.index) (omega (arith, missing, ids_long)))
            ∙ nothing
            ∙ sym (ap (λ n. inner_result (length prefix) o k (side (moved_count c) n)) at ∙ ap (inner_result (length prefix) o k) (side_back (moved_count c) (position_of rest id.index)))
          where
            absent : (js : List ℕ) → times id.index js ≡ 0 → position_of js id.index ≡ length js
            absent [] none = refl
            absent (j ∷ js) none = step (nat_eq j id.index) none (absent js)
              where
                step : (b : Bool) → cond b (suc (times id.index js)) (times id.index js) ≡ 0 → (times id.index js ≡ 0 → position_of js id.index ≡ length js)
                    → cond b 0 (suc (position_of js id.index)) ≡ suc (length js)
                step true none more = absurd (omega (arith, none))
                step false none more = ap suc (more none)
