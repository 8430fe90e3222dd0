-- Values that are constants: their types, and that every map under which the body holds has their words.
use Rattle.std.proofs.Common.{◌≡◌, ℕ, zero, suc, ◌+◌, ◌^◌, ◌≤◌, ℤ, Bool, true, false, List, length, map, Option, Some, None, slice_get, refl, sym, ap, ◌∙◌, arith, option_and_then}
use Rattle.wiring.specs.Wiring.{greatest}
use Rattle.bits_core.specs.Word.{Word, number, bits, bits_of_ℤ, zeros, ones}
use Rattle.bits_core.proofs.Complement.{length-bits_of_ℤ}
use Rattle.bits_core.proofs.Extension.{zeros_from_number, ones_from_number}
use Rattle.bits_core.proofs.Numbers.{bits-number}
use Rattle.hw_model.specs.Equality.{number_from}
use Rattle.hw_model.specs.Types.{HwType}
use Rattle.hw_model.specs.Types.HwType.{int}
use Rattle.hw_model.specs.Kinds.{Kind}
use Rattle.hw_model.specs.Kinds.Kind.{constant}
use Rattle.hw_model.specs.Design.{Ref, Port, Op, result_type}
use Rattle.hw_model.specs.Design.Ref.{port, result, undefined}
use Rattle.hw_model.specs.Value.{op_value}
use Rattle.hw_model.specs.Sound.{type_in}
use Rattle.edit_laws.specs.Edit.{result_word, word_of, HoldsBut}
use Rattle.edit_laws.specs.Falls.{LocalHeight}
use Rattle.edit_laws.proofs.ChangeInPlace.{plain_word}
use Rattle.fold_laws.specs.Constants.{constant_word, first_result_word, constant_at, meets, is_zero, is_one, is_ones}
use Rattle.fold_laws.proofs.MadeKinds.{is_made, anchors_kind}

-- ---- what a constant is

-- a constant of an integer's type, and its word
record IsInteger (kind : Kind) (t : Option HwType) (w : Word) : Type 0 where
  number_of : ℤ
  bits_of : ℕ
  kind_is : kind ≡ constant number_of
  type_is : t ≡ Some (int bits_of)
  word_is : bits_of_ℤ bits_of number_of ≡ w

integer_of : (kind : Kind) (t : Option HwType) (w : Word) → constant_word kind t ≡ Some w → IsInteger kind t w
integer_of (constant z) (Some (int n)) w is = record { number_of = z; bits_of = n; kind_is = refl; type_is = refl; word_is = cc }
integer_of (constant z) _ w is = cc
integer_of _ t w is = cc

-- ---- its type and its word

pub constant_typed : (ports : List Port) (os : List Op) (r : Ref) (w : Word) → constant_at os r ≡ Some w → type_in ports os r ≡ Some (int (length w))
constant_typed ports os (port j) w is = cc
constant_typed ports os undefined w is = cc
constant_typed ports os (result j (suc k)) w is = cc
constant_typed ports os (result j zero) w is = go (slice_get os j) is
  where
    go : (x : Option Op) → first_result_word x ≡ Some w → option_and_then (λ (o : Op). result_type o 0) x ≡ Some (int (length w))
    go None is = cc
    go (Some o) is =
        let here = integer_of o.kind (result_type o 0) w is in
        here.type_is ∙ ap (λ n. Some (int n)) (sym (length-bits_of_ℤ here.bits_of here.number_of) ∙ ap length here.word_is)

pub constant_held : (os : List Op) (τ : Ref → Word) (i : ℕ) (o : Op) → slice_get os i ≡ Some o → is_made o.kind ≡ true → HoldsBut os τ (λ j. j ≡ i)
    → (r : Ref) (w : Word) → constant_at os r ≡ Some w → τ r ≡ w
constant_held os τ i o there made holds (port j) w is = cc
constant_held os τ i o there made holds undefined w is = cc
constant_held os τ i o there made holds (result j (suc k)) w is = cc
constant_held os τ i o there made holds (result j zero) w is = go (slice_get os j) refl is
  where
    go : (x : Option Op) → slice_get os j ≡ x → first_result_word x ≡ Some w → τ (result j 0) ≡ w
    go None at is = cc
    go (Some c) at is = holds.result_is j 0 w other (ap (word_of τ 0) at ∙ plain_word τ 0 c (ap anchors_kind here.kind_is) ∙ ap Some value)
      where
        here : IsInteger c.kind (result_type c 0) w
        here = integer_of c.kind (result_type c 0) w is

        value : result_word τ c 0 (result_type c 0) ≡ w
        value =
            ap (result_word τ c 0) here.type_is
            ∙ ap (λ kind. op_value kind c.types (int here.bits_of) 0 (map τ c.operands)) here.kind_is
            ∙ here.word_is

        other : j ≡ i → ⊥
        other same =
            let both : Some c ≡ Some o = sym at ∙ ap (slice_get os) same ∙ there in
            let one : c ≡ o = cc in
            let kind : o.kind ≡ constant here.number_of = sym (ap (λ (y : Op). y.kind) one) ∙ here.kind_is in
            let clash : true ≡ false = sym made ∙ ap is_made kind in
            cc

-- a constant is no lower than 1
pub constant_high : (os : List Op) (h : Ref → ℕ) → LocalHeight os h → (r : Ref) (w : Word) → constant_at os r ≡ Some w → 1 ≤ h r
constant_high os h local (port j) w is = cc
constant_high os h local undefined w is = cc
constant_high os h local (result j (suc k)) w is = cc
constant_high os h local (result j zero) w is = go (slice_get os j) refl is
  where
    go : (x : Option Op) → slice_get os j ≡ x → first_result_word x ≡ Some w → 1 ≤ h (result j 0)
    go None at is = cc
    go (Some c) at is =
        let here = integer_of c.kind (result_type c 0) w is in
        let high : h (result j 0) ≡ suc (greatest (map h c.operands)) =
        local.made j 0 c (int here.bits_of) at (ap anchors_kind here.kind_is) here.type_is in
        omega arith

-- ---- tests

-- a test of a constant that is met
pub meets_is : (test : Word → Bool) (x : Option Word) → meets test x ≡ true → (w : Word) × (x ≡ Some w) × (test w ≡ true)
meets_is test None is = cc
meets_is test (Some w) is = (w, refl, is)

pub zero_is : (w : Word) → is_zero w ≡ true → w ≡ zeros (length w)
zero_is w is = zeros_from_number w (number_from (number w) 0 is)

pub ones_are : (w : Word) → is_ones w ≡ true → w ≡ ones (length w)
ones_are w is = ones_from_number w (number_from (number w + 1) (2 ^ length w) is)

pub one_is : (w : Word) → is_one w ≡ true → w ≡ bits (length w) 1
one_is w is = sym (bits-number w) ∙ ap (bits (length w)) (number_from (number w) 1 is)
