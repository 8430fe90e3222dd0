-- An operation is taken out.
use Rattle.std.proofs.Common.{◌≡◌, ℕ, zero, suc, ◌≤◌, false, cond, List, [], map, take, remove, slice_get, Option, Some, None, refl, sym, ap, subst, ◌∙◌, arith, option_and_then, option_map}
use Rattle.std.proofs.lemmas.Option.{slice_get-map}
use Rattle.wiring.specs.Wiring.{In}
use Rattle.wiring.proofs.Lists.{map-map}
use Rattle.bits_core.specs.Word.{Word}
use Rattle.hw_model.specs.Types.{HwType}
use Rattle.hw_model.specs.Design.{Ref, Op, Module, Design, is_register, is_instance, is_output_op, result_type}
use Rattle.hw_model.specs.Design.Ref.{port, result, undefined}
use Rattle.hw_model.specs.Value.{op_value}
use Rattle.hw_model.specs.Sound.{HasWidth, type_in}
use Rattle.edit_laws.specs.Edit.{retarget, is_anchor, anchors, result_word, word_of, HoldsBut, Holds}
use Rattle.edit_laws.specs.Falls.{LocalHeight}
use Rattle.edit_laws.specs.Follows.{Wide, ValidEdit, SameEdit, Valid, Follows}
use Rattle.edit_laws.specs.Laws.{up, down, ref_after_erase, up_ref, without, erase_op, with_body, IsNotOf, Erased}
use Rattle.edit_laws.proofs.Follows.{follows_set}
use Rattle.edit_laws.proofs.Positions.{down-up, up_from_down, down_none, get_taken, take_map, anchors-retarget, anchors-remove, before-remove}
use Rattle.edit_laws.proofs.Inserted.{retarget_type}
use Rattle.edit_laws.proofs.ChangeInPlace.{plain_word}

-- what a body says of a result, with other operands
pub retarget_word : (f : Ref → Ref) (τ : Ref → Word) (k : ℕ) (x : Option Op) → word_of τ k (option_map (retarget f) x) ≡ word_of (λ r. τ (f r)) k x
retarget_word f τ k None = refl
retarget_word f τ k (Some o) = ap (λ w. cond (is_register o) None (cond (is_instance o) None (cond (is_output_op o) (Some []) (Some w)))) (made (result_type o k))
  where
    made : (t : Option HwType) → result_word τ (retarget f o) k t ≡ result_word (λ r. τ (f r)) o k t
    made None = refl
    made (Some t) = ap (op_value o.kind o.types t k) (map-map τ f o.operands)

-- ---- values

-- a value that is none of the operation's is there as before
pub up-without : (i : ℕ) (x r : Ref) → IsNotOf i r → up_ref i (without i x r) ≡ r
up-without i x (port j) other = refl
up-without i x undefined other = refl
up-without i x (result j k) other = go (down i j) refl
  where
    go : (y : Option ℕ) → down i j ≡ y → up_ref i (ref_after_erase y x k) ≡ result j k
    go None here = absurd (other k (ap (λ n. result n k) (down_none i j here)))
    go (Some j') there = ap (λ n. result n k) (up_from_down i j j' there)

without_same : (i : ℕ) (x y r : Ref) → IsNotOf i r → without i x r ≡ without i y r
without_same i x y (port j) other = refl
without_same i x y undefined other = refl
without_same i x y (result j k) other = go (down i j) refl
  where
    go : (z : Option ℕ) → down i j ≡ z → ref_after_erase z x k ≡ ref_after_erase z y k
    go None here = absurd (other k (ap (λ n. result n k) (down_none i j here)))
    go (Some j') there = refl

-- ---- the body without the operation; y, a value of the new body, stands for its first result

module _ (md : Module) (i : ℕ) (o : Op) (there : slice_get md.body i ≡ Some o) (plain : is_anchor o ≡ false) (y : Ref) where
  abbrev stays_in : List Op
  stays_in = map (retarget (without i y)) (remove md.body i)

  pub old_there : (j j' : ℕ) → down i j ≡ Some j' → slice_get stays_in j' ≡ option_map (retarget (without i y)) (slice_get md.body j)
  old_there j j' is = slice_get-map (retarget (without i y)) (remove md.body i) j' ∙ ap (option_map (retarget (without i y))) (get_taken md.body i j j' is)

  -- a value that is none of the operation's keeps its type
  pub types_stay : (r : Ref) → IsNotOf i r → type_in md.ports stays_in (without i y r) ≡ type_in md.ports md.body r
  types_stay (port j) other = refl
  types_stay undefined other = refl
  types_stay (result j k) other = go (down i j) refl
    where
      go : (z : Option ℕ) → down i j ≡ z → type_in md.ports stays_in (ref_after_erase z y k) ≡ option_and_then (λ (w : Op). result_type w k) (slice_get md.body j)
      go None here = absurd (other k (ap (λ n. result n k) (down_none i j here)))
      go (Some j') is = ap (λ x. option_and_then (λ (w : Op). result_type w k) x) (old_there j j' is) ∙ retarget_type (without i y) (slice_get md.body j) k

  module _ (low : (h : Ref → ℕ) → LocalHeight md.body h → h (up_ref i y) ≤ h (result i 0))
      (named : (j : ℕ) (z : Op) (r : Ref) → slice_get md.body j ≡ Some z → In r z.operands → type_in md.ports stays_in (without i y r) ≡ type_in md.ports md.body r) where
    stand_lower : (h : Ref → ℕ) → LocalHeight md.body h → (r : Ref) → h (up_ref i (without i y r)) ≤ h r
    stand_lower h local (port j) = omega arith
    stand_lower h local undefined = omega arith
    stand_lower h local (result j k) = go (down i j) k refl
      where
        go : (z : Option ℕ) (k : ℕ) → down i j ≡ z → h (up_ref i (ref_after_erase z y k)) ≤ h (result j k)
        go None zero here =
            let same : h (result i 0) ≡ h (result j 0) = ap (λ n. h (result n 0)) (sym (down_none i j here)) in
            let below : h (up_ref i y) ≤ h (result i 0) = low h local in
            omega arith
        go None (suc k) here = local.lowest (result j (suc k))
        go (Some j') k is = let same : h (result (up i j') k) ≡ h (result j k) = ap (λ n. h (result n k)) (up_from_down i j j' is) in omega arith

    pub taken_out_valid : ValidEdit (Some md) (Some (record md { body = map (retarget (without i y)) (remove md.body i) }))
    taken_out_valid = record {
      edited = record {
        is_there = refl;
        ports_are = refl;
        edit = record {
          stand = without i y;
          port_is = λ j. refl;
          undefined_is = refl;
          anchors_are = anchors-retarget (without i y) (remove md.body i) ∙ ap (map (retarget (without i y))) (anchors-remove md.body i o there plain);
          position = down i;
          kept = λ j j' is. record {
            op = old_there j j' is;
            before = ap anchors (take_map (retarget (without i y)) j' (remove md.body i)) ∙ anchors-retarget (without i y) (take j' (remove md.body i))
                ∙ ap (map (retarget (without i y))) (before-remove md.body i j j' o there plain is);
            stands = λ k. ap (λ z. ref_after_erase z y k) is;
          };
        };
      };
      falls = record {
        lift = λ h r. h (up_ref i r);
        stand_is = stand_lower;
        port_is = λ h local j. omega arith;
        home = λ j'. Some (up i j');
        home_is = λ j' j is. let at_j : up i j' ≡ j = cc in ap (down i) (sym at_j) ∙ down-up i j';
        kept_is = λ h local j' j k is. let at_j : up i j' ≡ j = cc in let same : h (result (up i j') k) ≡ h (result j k) = ap (λ n. h (result n k)) at_j in omega arith;
        fresh_is = λ j' z new is. cc;
        fresh_falls = λ h local j' k z t new is. cc;
      };
      types = record { named = named; fresh = λ j' z new is. cc };
    }

-- ---- with a value that stands for the result

module _ (md : Module) (i : ℕ) (o : Op) (t : HwType) (x : Ref) (change : Erased md i o t x) where
  abbrev stand : Ref → Ref
  stand = without i (without i undefined x)

  -- all types stay
  all_types : (r : Ref) → type_in md.ports (erase_op i x md.body) (without i (without i undefined x) r) ≡ type_in md.ports md.body r
  all_types (port j) = refl
  all_types undefined = refl
  all_types (result j k) = go (down i j) k refl
    where
      at_i : (k : ℕ) → j ≡ i → type_in md.ports md.body (result j k) ≡ result_type o k
      at_i k here = ap (λ n. type_in md.ports md.body (result n k)) here ∙ ap (λ z. option_and_then (λ (w : Op). result_type w k) z) change.there

      go : (z : Option ℕ) (k : ℕ) → down i j ≡ z → type_in md.ports (erase_op i x md.body) (ref_after_erase z (without i undefined x) k) ≡ type_in md.ports md.body (result j k)
      go None zero here =
          ap (type_in md.ports (erase_op i x md.body)) (without_same i undefined (without i undefined x) x change.stand_stays)
          ∙ types_stay md i o change.there change.plain (without i undefined x) x change.stand_stays
          ∙ change.stand_is ∙ sym change.result_is ∙ sym (at_i zero (down_none i j here))
      go None (suc k) here = sym (at_i (suc k) (down_none i j here) ∙ change.no_more k)
      go (Some j') k is =
          ap (λ z. option_and_then (λ (w : Op). result_type w k) z) (old_there md i o change.there change.plain (without i undefined x) j j' is)
          ∙ retarget_type (without i (without i undefined x)) (slice_get md.body j) k

  take_out_valid : ValidEdit (Some md) (Some (record md { body = erase_op i x md.body }))
  take_out_valid =
      taken_out_valid md i o change.there change.plain (without i undefined x)
      (λ h local. subst (λ r. h r ≤ h (result i 0)) (sym (up-without i undefined x change.stand_stays)) (change.lower h local))
      (λ j z r is here. all_types r)

  pub take_out_same : SameEdit (Some md) (Some (record md { body = erase_op i x md.body }))
  unfolding taken_out_valid take_out_valid
  take_out_same = record {
    valid = take_out_valid;
    words = λ τ holds wide j k gone. at_position τ holds wide j k (down_none i j gone) gone;
  }
    where
      rest_holds : (τ : Ref → Word) → Holds (erase_op i x md.body) τ → HoldsBut md.body (λ r. τ (without i (without i undefined x) r)) (λ j. j ≡ i)
      rest_holds τ holds = record {
        undefined_is = holds.undefined_is;
        result_is = λ j k w other says. elsewhere τ holds j k w other says (down i j) refl;
      }
        where
          elsewhere : (τ : Ref → Word) → Holds (erase_op i x md.body) τ → (j k : ℕ) (w : Word) → (j ≡ i → ⊥)
              → word_of (λ r. τ (without i (without i undefined x) r)) k (slice_get md.body j) ≡ Some w
              → (z : Option ℕ) → down i j ≡ z → τ (ref_after_erase z (without i undefined x) k) ≡ w
          elsewhere τ holds j k w other says None here = absurd (other (down_none i j here))
          elsewhere τ holds j k w other says (Some j') is =
              holds.result_is j' k w (λ never. never)
              (ap (word_of τ k) (old_there md i o change.there change.plain (without i undefined x) j j' is)
              ∙ retarget_word (without i (without i undefined x)) τ k (slice_get md.body j) ∙ says)

      wide_before : (τ : Ref → Word) → Wide md.ports (erase_op i x md.body) τ → Wide md.ports md.body (λ r. τ (without i (without i undefined x) r))
      wide_before τ wide r = subst (λ z. HasWidth z (τ (without i (without i undefined x) r))) (all_types r) (wide (without i (without i undefined x) r))

      by_number : (τ : Ref → Word) → Holds (erase_op i x md.body) τ → Wide md.ports (erase_op i x md.body) τ → (k : ℕ)
          → result_word (λ r. τ (without i (without i undefined x) r)) o k (result_type o k) ≡ τ (ref_after_erase None (without i undefined x) k)
      by_number τ holds wide zero =
          ap (result_word (λ r. τ (without i (without i undefined x) r)) o 0) change.result_is
          ∙ change.words (λ r. τ (without i (without i undefined x) r)) (rest_holds τ holds) (wide_before τ wide)
          ∙ ap τ (without_same i (without i undefined x) undefined x change.stand_stays)
      by_number τ holds wide (suc k) =
          ap (result_word (λ r. τ (without i (without i undefined x) r)) o (suc k)) (change.no_more k) ∙ sym holds.undefined_is

      at_position : (τ : Ref → Word) → Holds (erase_op i x md.body) τ → Wide md.ports (erase_op i x md.body) τ → (j k : ℕ) → j ≡ i → down i j ≡ None
          → word_of (λ r. τ (without i (without i undefined x) r)) k (slice_get md.body j) ≡ Some (τ (ref_after_erase (down i j) (without i undefined x) k))
      at_position τ holds wide j k here gone =
          ap (λ n. word_of (λ r. τ (without i (without i undefined x) r)) k (slice_get md.body n)) here
          ∙ ap (word_of (λ r. τ (without i (without i undefined x) r)) k) change.there
          ∙ plain_word (λ r. τ (without i (without i undefined x) r)) k o change.plain
          ∙ ap Some (by_number τ holds wide k ∙ ap (λ z. τ (ref_after_erase z (without i undefined x) k)) (sym gone))

-- an operation that may be taken out, another value standing for its result, is
pub erase_op_preserves : (d : Design) (m : ℕ) (md : Module) (i : ℕ) (o : Op) (t : HwType) (x : Ref) → Valid d → slice_get d m ≡ Some md → Erased md i o t x
    → Follows d (with_body d m md (erase_op i x md.body))
erase_op_preserves d m md i o t x valid is change =
    follows_set d m md (record md { body = erase_op i x md.body }) is refl (take_out_same md i o t x change) valid
