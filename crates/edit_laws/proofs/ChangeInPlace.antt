-- An operation is changed in place.
use Rattle.std.proofs.Common.{◌≡◌, ℕ, ◌<◌, true, false, length, take, set, slice_get, Option, Some, None, refl, sym, ap, subst, ◌∙◌, arith, option_and_then}
use Rattle.std.proofs.lemmas.Option.{slice_get_within}
use Rattle.wiring.specs.Wiring.{In}
use Rattle.wiring.proofs.Lists.{slice_get-set_same}
use Rattle.wiring.proofs.Members.{map_same}
use Rattle.bits_core.specs.Word.{Word}
use Rattle.hw_model.specs.Types.{HwType}
use Rattle.hw_model.specs.Design.{Ref, Op, Module, Design, result_type}
use Rattle.hw_model.specs.Design.Ref.{port, result, undefined}
use Rattle.hw_model.specs.Sound.{HasWidth, type_in, Fits, OpFits}
use Rattle.hw_model.proofs.Sorts.{Sort, sort_of}
use Rattle.hw_model.proofs.Sorts.Sort.{a_register, an_instance, an_output, a_made}
use Rattle.edit_laws.specs.Edit.{is_anchor, anchors, result_word, word_of, word_of_op, HoldsBut, Holds}
use Rattle.edit_laws.specs.Follows.{Wide, ValidEdit, SameEdit, Valid, Follows}
use Rattle.edit_laws.specs.Laws.{other_than, with_body, InPlace}
use Rattle.edit_laws.proofs.OtherOperands.{map_retarget_id, option_map_retarget_id}
use Rattle.edit_laws.proofs.Follows.{follows_set}
use Rattle.edit_laws.proofs.Positions.{other_some, other_none, get_other, anchors-set, before-set}

-- the word of an operation that is made of its operands
pub plain_word : (τ : Ref → Word) (k : ℕ) (o : Op) → is_anchor o ≡ false → word_of_op τ k o ≡ Some (result_word τ o k (result_type o k))
plain_word τ k o plain = go (sort_of o.kind)
  where
    go : Sort o.kind → word_of_op τ k o ≡ Some (result_word τ o k (result_type o k))
    go (a_register f r i u) = let clash : true ≡ false = simp r at plain in cc
    go (an_instance x r i u) = let clash : true ≡ false = simp (r, i) at plain in cc
    go (an_output r i u) = let clash : true ≡ false = simp (r, i, u) at plain in cc
    go (a_made r i u) = simp (r, i, u)

module _ (md : Module) (i : ℕ) (o o' : Op) (change : InPlace md i o o') where
  within : i < length md.body
  within = slice_get_within md.body i o change.there

  new_there : slice_get (set md.body i o') i ≡ Some o'
  new_there = slice_get-set_same md.body i o' within

  -- the types of all values stay
  types_stay : (r : Ref) → type_in md.ports (set md.body i o') r ≡ type_in md.ports md.body r
  types_stay (port j) = refl
  types_stay undefined = refl
  types_stay (result j k) = go (other_than i j) refl
    where
      go : (x : Option ℕ) → other_than i j ≡ x
          → option_and_then (λ (y : Op). result_type y k) (slice_get (set md.body i o') j) ≡ option_and_then (λ (y : Op). result_type y k) (slice_get md.body j)
      go (Some j') is = ap (λ y. option_and_then (λ (z : Op). result_type z k) y) (get_other md.body i j j' o' is)
      go None is =
          let here : j ≡ i = other_none i j is in
          ap (λ n. option_and_then (λ (z : Op). result_type z k) (slice_get (set md.body i o') n)) here
          ∙ ap (λ y. option_and_then (λ (z : Op). result_type z k) y) new_there
          ∙ change.same_types k
          ∙ sym (ap (λ y. option_and_then (λ (z : Op). result_type z k) y) change.there)
          ∙ sym (ap (λ n. option_and_then (λ (z : Op). result_type z k) (slice_get md.body n)) here)

  -- what is new is o'
  fresh_op : (j : ℕ) (y : Op) → other_than i j ≡ None → slice_get (set md.body i o') j ≡ Some y → o' ≡ y
  fresh_op j y new is =
      let e : Some o' ≡ Some y = sym new_there ∙ ap (slice_get (set md.body i o')) (sym (other_none i j new)) ∙ is in cc

  pub in_place_valid : ValidEdit (Some md) (Some (record md { body = set md.body i o' }))
  in_place_valid = record {
    edited = record {
      is_there = refl;
      ports_are = refl;
      edit = record {
        stand = λ r. r;
        port_is = λ j. refl;
        undefined_is = refl;
        anchors_are = anchors-set md.body i o o' change.there change.old_plain change.new_plain ∙ sym (map_retarget_id (anchors md.body));
        position = other_than i;
        kept = λ j j' is. record {
          op = ap (slice_get (set md.body i o')) (sym (other_some i j j' is)) ∙ get_other md.body i j j' o' is ∙ sym (option_map_retarget_id (slice_get md.body j));
          before = ap (λ n. anchors (take n (set md.body i o'))) (sym (other_some i j j' is))
              ∙ before-set md.body i j o o' change.there change.old_plain change.new_plain ∙ sym (map_retarget_id (anchors (take j md.body)));
          stands = λ k. ap (λ n. result n k) (other_some i j j' is);
        };
      };
    };
    falls = record {
      lift = λ h. h;
      stand_is = λ h local r. omega arith;
      port_is = λ h local j. omega arith;
      home = other_than i;
      home_is = λ j' j is. subst (λ n. other_than i n ≡ Some j') (other_some i j' j is) (is ∙ ap Some (sym (other_some i j' j is)));
      kept_is = λ h local j' j k is. let same : h (result j' k) ≡ h (result j k) = ap (λ n. h (result n k)) (other_some i j' j is) in omega arith;
      fresh_is = λ j' y new is. ap is_anchor (sym (fresh_op j' y new is)) ∙ change.new_plain;
      fresh_falls = λ h local j' k y t new is typed r here.
          let same : o' ≡ y = fresh_op j' y new is in
          let at_i : h (result j' k) ≡ h (result i k) = ap (λ n. h (result n k)) (other_none i j' new) in
          let lower : h r < h (result i k) =
          change.lower h local k t (sym (change.same_types k) ∙ ap (λ z. result_type z k) same ∙ typed) r (subst (λ z. In r z.operands) (sym same) here) in
          omega arith;
    };
    types = record {
      named = λ j y r is here. types_stay r;
      fresh = λ j' y new is. subst (OpFits (type_in md.ports (set md.body i o'))) (fresh_op j' y new is) new_fits;
    };
  }
    where
      new_fits : OpFits (type_in md.ports (set md.body i o')) o'
      new_fits k t typed =
          subst (λ xs. Fits o'.kind o'.types xs t k)
          (sym (map_same (type_in md.ports (set md.body i o')) (type_in md.ports md.body) o'.operands (λ r here. types_stay r)))
          (change.fits k t typed)

  pub in_place_same : SameEdit (Some md) (Some (record md { body = set md.body i o' }))
  unfolding in_place_valid
  in_place_same = record {
    valid = in_place_valid;
    words = λ τ holds wide j k gone. at_position τ holds wide j k (other_none i j gone);
  }
    where
      rest_holds : (τ : Ref → Word) → Holds (set md.body i o') τ → HoldsBut md.body τ (λ j. j ≡ i)
      rest_holds τ holds = record {
        undefined_is = holds.undefined_is;
        result_is = λ j k w other says. elsewhere τ holds j k w other says (other_than i j) refl;
      }
        where
          elsewhere : (τ : Ref → Word) → Holds (set md.body i o') τ → (j k : ℕ) (w : Word) → (j ≡ i → ⊥) → word_of τ k (slice_get md.body j) ≡ Some w
              → (x : Option ℕ) → other_than i j ≡ x → τ (result j k) ≡ w
          elsewhere τ holds j k w other says None here = absurd (other (other_none i j here))
          elsewhere τ holds j k w other says (Some j') there =
              holds.result_is j k w (λ never. never) (ap (word_of τ k) (get_other md.body i j j' o' there) ∙ says)

      wide_before : (τ : Ref → Word) → Wide md.ports (set md.body i o') τ → Wide md.ports md.body τ
      wide_before τ wide r = subst (λ x. HasWidth x (τ r)) (types_stay r) (wide r)

      same_word : (τ : Ref → Word) → Holds (set md.body i o') τ → Wide md.ports (set md.body i o') τ → (k : ℕ) → (x : Option HwType) → result_type o k ≡ x
          → result_word τ o k x ≡ result_word τ o' k x
      same_word τ holds wide k None typed = refl
      same_word τ holds wide k (Some t) typed = change.words τ (rest_holds τ holds) (wide_before τ wide) k t typed

      at_position : (τ : Ref → Word) → Holds (set md.body i o') τ → Wide md.ports (set md.body i o') τ → (j k : ℕ) → j ≡ i
          → word_of τ k (slice_get md.body j) ≡ Some (τ (result j k))
      at_position τ holds wide j k here =
          let new_says : word_of τ k (slice_get (set md.body i o') i) ≡ Some (result_word τ o' k (result_type o' k)) =
          ap (word_of τ k) new_there ∙ plain_word τ k o' change.new_plain in
          let new_is : τ (result i k) ≡ result_word τ o' k (result_type o' k) = holds.result_is i k (result_word τ o' k (result_type o' k)) (λ never. never) new_says in
          ap (λ n. word_of τ k (slice_get md.body n)) here ∙ ap (word_of τ k) change.there ∙ plain_word τ k o change.old_plain
          ∙ ap Some (same_word τ holds wide k (result_type o k) refl ∙ ap (result_word τ o' k) (sym (change.same_types k)) ∙ sym new_is ∙ ap (λ n. τ (result n k)) (sym here))

-- an operation that may be changed in place is
pub replace_op_preserves : (d : Design) (m : ℕ) (md : Module) (i : ℕ) (o o' : Op) → Valid d → slice_get d m ≡ Some md → InPlace md i o o'
    → Follows d (with_body d m md (set md.body i o'))
replace_op_preserves d m md i o o' valid is change =
    follows_set d m md (record md { body = set md.body i o' }) is refl (in_place_same md i o o' change) valid
