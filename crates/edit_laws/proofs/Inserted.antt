-- An operation is put in.
use Rattle.std.proofs.Common.{◌≡◌, ℕ, suc, ◌≤◌, List, length, map, take, slice_get, Option, Some, None, refl, sym, ap, subst, ◌∙◌, arith, option_and_then, option_map}
use Rattle.std.proofs.lemmas.Option.{slice_get-map}
use Rattle.wiring.specs.Wiring.{In, greatest}
use Rattle.wiring.proofs.Members.{In-map, from_In-map, map_same}
use Rattle.wiring.proofs.Lists.{map-map}
use Rattle.wiring.proofs.Edits.{slice_get-insert_at}
use Rattle.wiring.proofs.Heights.{le-greatest}
use Rattle.hw_model.specs.Design.{Ref, Op, Module, Design, result_type}
use Rattle.hw_model.specs.Design.Ref.{port, result, undefined}
use Rattle.hw_model.specs.Sound.{type_in, Fits, OpFits}
use Rattle.edit_laws.specs.Edit.{retarget, is_anchor, anchors}
use Rattle.edit_laws.specs.Follows.{ValidEdit, SameEdit, Valid, Follows}
use Rattle.edit_laws.specs.Laws.{up, down, up_ref, insert_op, with_body, Inserted}
use Rattle.edit_laws.proofs.OtherOperands.{length_map}
use Rattle.edit_laws.proofs.Follows.{follows_set}
use Rattle.edit_laws.proofs.Positions.{down-up, up_from_down, down_none, get_put, take_map, anchors-retarget, anchors-insert, before-insert}

-- the type at a position, where other operands change no type
pub retarget_type : (f : Ref → Ref) (x : Option Op) (k : ℕ) → option_and_then (λ (y : Op). result_type y k) (option_map (retarget f) x) ≡ option_and_then (λ (y : Op). result_type y k) x
retarget_type f None k = refl
retarget_type f (Some o) k = refl

module _ (md : Module) (i : ℕ) (o : Op) (change : Inserted md i o) where
  abbrev body : List Op
  body = insert_op i o md.body

  within : i ≤ length (map (retarget (up_ref i)) md.body)
  within = subst (λ n. i ≤ n) (sym (length_map (retarget (up_ref i)) md.body)) change.within

  old_there : (j : ℕ) → slice_get (insert_op i o md.body) (up i j) ≡ option_map (retarget (up_ref i)) (slice_get md.body j)
  old_there j = get_put (map (retarget (up_ref i)) md.body) i j (retarget (up_ref i) o) within ∙ slice_get-map (retarget (up_ref i)) md.body j

  new_there : slice_get (insert_op i o md.body) i ≡ Some (retarget (up_ref i) o)
  new_there = slice_get-insert_at (map (retarget (up_ref i)) md.body) i (retarget (up_ref i) o) within

  types_stay : (r : Ref) → type_in md.ports (insert_op i o md.body) (up_ref i r) ≡ type_in md.ports md.body r
  types_stay (port j) = refl
  types_stay undefined = refl
  types_stay (result j k) =
      ap (λ x. option_and_then (λ (y : Op). result_type y k) x) (old_there j) ∙ retarget_type (up_ref i) (slice_get md.body j) k

  fresh_op : (j : ℕ) (y : Op) → down i j ≡ None → slice_get (insert_op i o md.body) j ≡ Some y → retarget (up_ref i) o ≡ y
  fresh_op j y new is =
      let e : Some (retarget (up_ref i) o) ≡ Some y = sym new_there ∙ ap (slice_get (insert_op i o md.body)) (sym (down_none i j new)) ∙ is in cc

  -- the heights: the new operation is one higher than the highest of its operands
  abbrev put_height : (Ref → ℕ) → Option ℕ → ℕ → ℕ
  put_height h (Some j) k = h (result j k)
  put_height h None k = suc (greatest (map h o.operands))

  abbrev lift_up : (Ref → ℕ) → Ref → ℕ
  lift_up h (port j) = h (port j)
  lift_up h (result j k) = put_height h (down i j) k
  lift_up h undefined = h undefined

  lift_up_is : (h : Ref → ℕ) (r : Ref) → lift_up h (up_ref i r) ≡ h r
  lift_up_is h (port j) = refl
  lift_up_is h (result j k) = ap (λ x. put_height h x k) (down-up i j)
  lift_up_is h undefined = refl

  pub put_in_valid : ValidEdit (Some md) (Some (record md { body = insert_op i o md.body }))
  put_in_valid = record {
    edited = record {
      is_there = refl;
      ports_are = refl;
      edit = record {
        stand = up_ref i;
        port_is = λ j. refl;
        undefined_is = refl;
        anchors_are = anchors-insert (map (retarget (up_ref i)) md.body) i (retarget (up_ref i) o) change.plain ∙ anchors-retarget (up_ref i) md.body;
        position = λ j. Some (up i j);
        kept = λ j j' is.
            let here : up i j ≡ j' = cc in
            record {
              op = ap (slice_get (insert_op i o md.body)) (sym here) ∙ old_there j;
              before = ap (λ n. anchors (take n (insert_op i o md.body))) (sym here)
                  ∙ before-insert (map (retarget (up_ref i)) md.body) i j (retarget (up_ref i) o) within change.plain
                  ∙ ap anchors (take_map (retarget (up_ref i)) j md.body) ∙ anchors-retarget (up_ref i) (take j md.body);
              stands = λ k. ap (λ n. result n k) here;
            };
      };
    };
    falls = record {
      lift = lift_up;
      stand_is = λ h local r. let same : lift_up h (up_ref i r) ≡ h r = lift_up_is h r in omega arith;
      port_is = λ h local j. omega arith;
      home = down i;
      home_is = λ j' j is. ap Some (up_from_down i j' j is);
      kept_is = λ h local j' j k is. let same : put_height h (down i j') k ≡ h (result j k) = ap (λ x. put_height h x k) is in omega arith;
      fresh_is = λ j' y new is. ap is_anchor (sym (fresh_op j' y new is)) ∙ change.plain;
      fresh_falls = λ h local j' k y t new is typed r here.
          let named : In r (map (up_ref i) o.operands) = subst (λ z. In r z.operands) (sym (fresh_op j' y new is)) here in
          let from = from_In-map (up_ref i) r o.operands named in
          let low : lift_up h r ≡ h from.0 = ap (lift_up h) from.2 ∙ lift_up_is h from.0 in
          let below : h from.0 ≤ greatest (map h o.operands) = le-greatest (h from.0) (map h o.operands) (In-map h from.0 o.operands from.1) in
          let top : lift_up h (result j' k) ≡ suc (greatest (map h o.operands)) = ap (λ x. put_height h x k) new in
          omega arith;
    };
    types = record {
      named = λ j y r is here. types_stay r;
      fresh = λ j' y new is. subst (OpFits (type_in md.ports (insert_op i o md.body))) (fresh_op j' y new is) new_fits;
    };
  }
    where
      new_fits : OpFits (type_in md.ports (insert_op i o md.body)) (retarget (up_ref i) o)
      new_fits k t typed =
          subst (λ xs. Fits o.kind o.types xs t k)
          (sym (map-map (type_in md.ports (insert_op i o md.body)) (up_ref i) o.operands
          ∙ map_same (λ r. type_in md.ports (insert_op i o md.body) (up_ref i r)) (type_in md.ports md.body) o.operands (λ r here. types_stay r)))
          (change.fits k t typed)

  pub put_in_same : SameEdit (Some md) (Some (record md { body = insert_op i o md.body }))
  unfolding put_in_valid
  put_in_same = record { valid = put_in_valid; words = λ τ holds wide j k gone. cc }

-- an operation that may be put in is
pub insert_op_preserves : (d : Design) (m : ℕ) (md : Module) (i : ℕ) (o : Op) → Valid d → slice_get d m ≡ Some md → Inserted md i o
    → Follows d (with_body d m md (insert_op i o md.body))
insert_op_preserves d m md i o valid is change =
    follows_set d m md (record md { body = insert_op i o md.body }) is refl (put_in_same md i o change) valid
