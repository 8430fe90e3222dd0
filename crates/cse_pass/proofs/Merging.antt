-- An operation goes, and the results of an equal one before it stand for its own: a design does what it did.
use Rattle.std.proofs.Common.{◌≡◌, ◌<◌, ◌≤◌, ℕ, zero, suc, true, false, map, take, remove, slice_get, Option, Some, None, refl, sym, ap, ◌∙◌, arith, option_and_then, option_map}
use Rattle.std.specs.Prelude.{is_some}
use Rattle.std.proofs.lemmas.Option.{slice_get-map}
use Rattle.wiring.specs.Wiring.{In, greatest}
use Rattle.wiring.proofs.Members.{map_same, position_of_In}
use Rattle.wiring.proofs.Edits.{from_In-remove}
use Rattle.bits_core.specs.Word.{Word}
use Rattle.hw_model.specs.Types.{HwType}
use Rattle.hw_model.specs.Design.{Ref, Op, Module, Design, result_type}
use Rattle.hw_model.specs.Design.Ref.{port, result, undefined}
use Rattle.hw_model.specs.Sound.{type_in}
use Rattle.edit_laws.specs.Edit.{retarget, is_anchor, anchors, result_word, word_of, Holds}
use Rattle.edit_laws.specs.Falls.{LocalHeight}
use Rattle.edit_laws.specs.Follows.{ValidEdit, SameEdit, Valid, Follows}
use Rattle.edit_laws.specs.Laws.{up, down, up_ref, with_body}
use Rattle.edit_laws.proofs.ChangeInPlace.{plain_word}
use Rattle.edit_laws.proofs.Follows.{follows_set}
use Rattle.edit_laws.proofs.Inserted.{retarget_type}
use Rattle.edit_laws.proofs.Positions.{down-up, up_from_down, down_none, get_taken, take_map, anchors-retarget, anchors-remove, before-remove}
use Rattle.edit_laws.proofs.TakeOut.{retarget_word}
use Rattle.cse_pass.specs.Merges.{merged_at, merged_ref, merge_op}

-- ---- positions before one that is taken out

pub up_below : (i j : ℕ) → j < i → up i j ≡ j
up_below zero j less = absurd (omega (arith, less))
up_below (suc i) zero less = refl
up_below (suc i) (suc j) less = ap suc (up_below i j (omega (arith, less)))

pub down_below : (i j : ℕ) → j < i → down i j ≡ Some j
down_below zero j less = absurd (omega (arith, less))
down_below (suc i) zero less = refl
down_below (suc i) (suc j) less = ap (option_map suc) (down_below i j (omega (arith, less)))

-- ---- values

-- result k of the operation at position j where it has a type
abbrev pub typed_result : Option HwType → ℕ → ℕ → Ref
typed_result None j k = undefined
typed_result (Some t) j k = result j k

-- a value once o at position i is gone, the results of the operation at position j before it standing for its own
abbrev pub stand_at : Option ℕ → Op → ℕ → ℕ → Ref
stand_at (Some n) o j k = result n k
stand_at None o j k = typed_result (result_type o k) j k

abbrev pub stand_for : ℕ → ℕ → Op → Ref → Ref
stand_for i j o (port n) = port n
stand_for i j o (result n k) = stand_at (down i n) o j k
stand_for i j o undefined = undefined

-- o at position i may go, the results of p at position j before it standing for its own: both are made of the same operands and
-- have the same types of results, and the same words
pub record Merged (md : Module) (i j : ℕ) (o p : Op) : Type 0 where
  pub there : slice_get md.body i ≡ Some o
  pub first : slice_get md.body j ≡ Some p
  pub before : j < i
  pub plain : is_anchor o ≡ false
  pub first_plain : is_anchor p ≡ false
  pub operands : p.operands ≡ o.operands
  pub types : (k : ℕ) → result_type p k ≡ result_type o k
  pub words : (τ : Ref → Word) (k : ℕ) (t : HwType) → result_type o k ≡ Some t → result_word τ o k (Some t) ≡ result_word τ p k (Some t)

module _ (md : Module) (i j : ℕ) (o p : Op) (merge : Merged md i j o p) where
  pub merged_there : (n n' : ℕ) → down i n ≡ Some n' → slice_get (map (retarget (stand_for i j o)) (remove md.body i)) n' ≡ option_map (retarget (stand_for i j o)) (slice_get md.body n)
  merged_there n n' is = slice_get-map (retarget (stand_for i j o)) (remove md.body i) n' ∙ ap (option_map (retarget (stand_for i j o))) (get_taken md.body i n n' is)

  -- the one that stays
  pub first_stays : slice_get (map (retarget (stand_for i j o)) (remove md.body i)) j ≡ Some (retarget (stand_for i j o) p)
  first_stays = merged_there j j (down_below i j merge.before) ∙ ap (option_map (retarget (stand_for i j o))) merge.first

  -- all types stay
  pub types_stay : (r : Ref) → type_in md.ports (map (retarget (stand_for i j o)) (remove md.body i)) (stand_for i j o r) ≡ type_in md.ports md.body r
  types_stay (port n) = refl
  types_stay undefined = refl
  types_stay (result n k) = go (down i n) refl
    where
      of_result : (x : Option HwType) → result_type o k ≡ x → type_in md.ports (map (retarget (stand_for i j o)) (remove md.body i)) (typed_result x j k) ≡ result_type o k
      of_result None typed = sym typed
      of_result (Some t) typed = ap (λ z. option_and_then (λ (w : Op). result_type w k) z) first_stays ∙ merge.types k

      go : (z : Option ℕ) → down i n ≡ z → type_in md.ports (map (retarget (stand_for i j o)) (remove md.body i)) (stand_at z o j k) ≡ option_and_then (λ (w : Op). result_type w k) (slice_get md.body n)
      go None here =
          of_result (result_type o k) refl
          ∙ sym (ap (λ z. option_and_then (λ (w : Op). result_type w k) z) (ap (slice_get md.body) (down_none i n here) ∙ merge.there))
      go (Some n') is = ap (λ z. option_and_then (λ (w : Op). result_type w k) z) (merged_there n n' is) ∙ retarget_type (stand_for i j o) (slice_get md.body n) k

  -- what stands for a value is no higher
  pub stands_lower : (h : Ref → ℕ) → LocalHeight md.body h → (r : Ref) → h (up_ref i (stand_for i j o r)) ≤ h r
  stands_lower h local (port n) = omega arith
  stands_lower h local undefined = omega arith
  stands_lower h local (result n k) = go (down i n) refl
    where
      of_result : (x : Option HwType) → result_type o k ≡ x → h (up_ref i (typed_result x j k)) ≤ h (result i k)
      of_result None typed = local.lowest (result i k)
      of_result (Some t) typed =
          let of_first : h (result j k) ≡ suc (greatest (map h p.operands)) = local.made j k p t merge.first merge.first_plain (merge.types k ∙ typed) in
          let of_own : h (result i k) ≡ suc (greatest (map h o.operands)) = local.made i k o t merge.there merge.plain typed in
          let same : greatest (map h p.operands) ≡ greatest (map h o.operands) = ap (λ rs. greatest (map h rs)) merge.operands in
          let stands : h (result (up i j) k) ≡ h (result j k) = ap (λ m. h (result m k)) (up_below i j merge.before) in
          omega (arith, of_first, of_own, same, stands)

      go : (z : Option ℕ) → down i n ≡ z → h (up_ref i (stand_at z o j k)) ≤ h (result n k)
      go None here =
          let same : h (result n k) ≡ h (result i k) = ap (λ m. h (result m k)) (down_none i n here) in
          let below : h (up_ref i (typed_result (result_type o k) j k)) ≤ h (result i k) = of_result (result_type o k) refl in
          omega (arith, same, below)
      go (Some n') is = let same : h (result (up i n') k) ≡ h (result n k) = ap (λ m. h (result m k)) (up_from_down i n n' is) in omega (arith, same)

  unfoldable pub merged_valid : ValidEdit (Some md) (Some (record md { body = map (retarget (stand_for i j o)) (remove md.body i) }))
  merged_valid = record {
    edited = record {
      is_there = refl;
      ports_are = refl;
      edit = record {
        stand = stand_for i j o;
        port_is = λ n. refl;
        undefined_is = refl;
        anchors_are = anchors-retarget (stand_for i j o) (remove md.body i) ∙ ap (map (retarget (stand_for i j o))) (anchors-remove md.body i o merge.there merge.plain);
        position = down i;
        kept = λ n n' is. record {
          op = merged_there n n' is;
          before = ap anchors (take_map (retarget (stand_for i j o)) n' (remove md.body i)) ∙ anchors-retarget (stand_for i j o) (take n' (remove md.body i))
              ∙ ap (map (retarget (stand_for i j o))) (before-remove md.body i n n' o merge.there merge.plain is);
          stands = λ k. ap (λ z. stand_at z o j k) is;
        };
      };
    };
    falls = record {
      lift = λ h r. h (up_ref i r);
      stand_is = stands_lower;
      port_is = λ h local n. omega arith;
      home = λ n'. Some (up i n');
      home_is = λ n' n is. let at_n : up i n' ≡ n = cc in ap (down i) (sym at_n) ∙ down-up i n';
      kept_is = λ h local n' n k is. let at_n : up i n' ≡ n = cc in let same : h (result (up i n') k) ≡ h (result n k) = ap (λ m. h (result m k)) at_n in omega arith;
      fresh_is = λ n' z new is. cc;
      fresh_falls = λ h local n' k z t new is. cc;
    };
    types = record { named = λ n z r is here. types_stay r; fresh = λ n' z new is. cc };
  }

  pub merged_same : SameEdit (Some md) (Some (record md { body = map (retarget (stand_for i j o)) (remove md.body i) }))
  unfolding merged_valid
  merged_same = record {
    valid = merged_valid;
    words = λ τ holds wide n k gone. at_position τ holds n k (down_none i n gone) gone;
  }
    where
      first_word : (τ : Ref → Word) → Holds (map (retarget (stand_for i j o)) (remove md.body i)) τ → (k : ℕ) (t : HwType) → result_type o k ≡ Some t
          → result_word (λ r. τ (stand_for i j o r)) p k (Some t) ≡ τ (result j k)
      first_word τ holds k t typed =
          sym (holds.result_is j k (result_word (λ r. τ (stand_for i j o r)) p k (Some t)) (λ never. never)
          (ap (word_of τ k) first_stays
          ∙ retarget_word (stand_for i j o) τ k (Some p)
          ∙ plain_word (λ r. τ (stand_for i j o r)) k p merge.first_plain
          ∙ ap (λ x. Some (result_word (λ r. τ (stand_for i j o r)) p k x)) (merge.types k ∙ typed)))

      by_type : (τ : Ref → Word) → Holds (map (retarget (stand_for i j o)) (remove md.body i)) τ → (k : ℕ) (x : Option HwType) → result_type o k ≡ x
          → result_word (λ r. τ (stand_for i j o r)) o k x ≡ τ (typed_result x j k)
      by_type τ holds k None typed = sym holds.undefined_is
      by_type τ holds k (Some t) typed = merge.words (λ r. τ (stand_for i j o r)) k t typed ∙ first_word τ holds k t typed

      at_position : (τ : Ref → Word) → Holds (map (retarget (stand_for i j o)) (remove md.body i)) τ → (n k : ℕ) → n ≡ i → down i n ≡ None
          → word_of (λ r. τ (stand_for i j o r)) k (slice_get md.body n) ≡ Some (τ (stand_at (down i n) o j k))
      at_position τ holds n k here gone =
          ap (λ m. word_of (λ r. τ (stand_for i j o r)) k (slice_get md.body m)) here
          ∙ ap (word_of (λ r. τ (stand_for i j o r)) k) merge.there
          ∙ plain_word (λ r. τ (stand_for i j o r)) k o merge.plain
          ∙ ap Some (by_type τ holds k (result_type o k) refl ∙ ap (λ z. τ (stand_at z o j k)) (sym gone))

  pub merged_follows : (d : Design) (m : ℕ) → Valid d → slice_get d m ≡ Some md → Follows d (with_body d m md (map (retarget (stand_for i j o)) (remove md.body i)))
  merged_follows d m valid at = follows_set d m md (record md { body = map (retarget (stand_for i j o)) (remove md.body i) }) at refl merged_same valid

  -- where each operand is a value of the body, this is the body that is made
  pub body_is : ((n : ℕ) (z : Op) (r : Ref) → slice_get md.body n ≡ Some z → In r z.operands → is_some (type_in md.ports md.body r) ≡ true)
      → map (retarget (stand_for i j o)) (remove md.body i) ≡ merge_op i j md.body
  body_is defined =
      map_same (retarget (stand_for i j o)) (retarget (merged_ref i j)) (remove md.body i)
      (λ z here.
      let stands = position_of_In z md.body (from_In-remove md.body i z here) in
      ap (λ rs. record z { operands = rs }) (map_same (stand_for i j o) (merged_ref i j) z.operands (λ r named. same_ref r (defined stands.0 z r stands.1 named))))
    where
      of_result : (k : ℕ) (x : Option HwType) → is_some x ≡ true → typed_result x j k ≡ result j k
      of_result k None h = cc
      of_result k (Some t) h = refl

      same_ref : (r : Ref) → is_some (type_in md.ports md.body r) ≡ true → stand_for i j o r ≡ merged_ref i j r
      same_ref (port n) h = refl
      same_ref undefined h = refl
      same_ref (result n k) h = go (down i n) refl
        where
          go : (z : Option ℕ) → down i n ≡ z → stand_at z o j k ≡ merged_at z j k
          go (Some n') is = refl
          go None here =
              of_result k (result_type o k)
              (sym (ap (λ x. is_some (option_and_then (λ (w : Op). result_type w k) x)) (ap (slice_get md.body) (down_none i n here) ∙ merge.there)) ∙ h)
