-- A difference with 0, a shift by 0 and a quotient by 1: the first operand stands for it.
use Rattle.std.proofs.Common.{◌≡◌, true, List, [], ◌∷◌, length, Option, Some, refl, sym, ap, subst, ◌∙◌, inl}
use Rattle.bits_core.specs.Word.{Word, number, bits, sub as difference}
use Rattle.bits_core.proofs.Arithmetic.{sub_words-zeros, quotient_words-one, signed_quotient_words-one}
use Rattle.bits_core.proofs.Shifts.{shift_left-zero, shift_right-zero, shift_right_signed-zero}
use Rattle.hw_model.specs.Equality.{number_from}
use Rattle.hw_model.specs.Types.{HwType, width}
use Rattle.hw_model.specs.Types.HwType.{int}
use Rattle.hw_model.specs.Kinds.{Kind, Shift, Division}
use Rattle.hw_model.specs.Kinds.Shift.{shl, shru, shrs}
use Rattle.hw_model.specs.Kinds.Division.{divu, divs}
use Rattle.hw_model.specs.Kinds.Kind.{sub, shift, division}
use Rattle.hw_model.specs.Design.{Ref, Op}
use Rattle.hw_model.specs.Value.{division_value, shift_value}
use Rattle.fold_laws.specs.Constants.{constant_at, is_constant_where, is_zero, is_one}
use Rattle.fold_laws.specs.Standing.{first_where, sub_zero, shift_zero, div_one}
use Rattle.fold_laws.proofs.Constants.{meets_is, zero_is, one_is}
use Rattle.fold_laws.proofs.MadeKinds.{is_made}
use Rattle.fold_laws.proofs.Operands.{first_is}
use Rattle.fold_laws.proofs.Stands.{Known, held_width, Stands, IsStand}

-- two operands of the result's type
pub first_typed : {t : HwType} (x y : Option HwType) → x ∷ y ∷ [] ≡ Some t ∷ Some t ∷ [] → x ≡ Some t
first_typed x y same = cc

pub second_typed : {t : HwType} (x y : Option HwType) → x ∷ y ∷ [] ≡ Some t ∷ Some t ∷ [] → y ≡ Some t
second_typed x y same = cc

-- ---- sub

sub_stands : (os : List Op) (ts : List HwType) (x y : Ref) (type_of : Ref → Option HwType) (t : HwType) → is_constant_where is_zero os y ≡ true
    → Known os sub ts (x ∷ y ∷ []) type_of t → Stands os sub ts (x ∷ y ∷ []) x type_of t
sub_stands os ts x y type_of t met known =
    let zero = meets_is is_zero (constant_at os y) met in
    record {
      named = inl refl;
      typed = first_typed (type_of x) (type_of y) known.fits;
      words = λ τ held.
          ap (difference (τ x)) (held.constants y zero.0 zero.1 ∙ zero_is zero.0 zero.2) ∙ sub_words-zeros (τ x) (length zero.0);
    }

pub sub_zero_stands : IsStand sub_zero
sub_zero_stands = record { made = made; stands = stands }
  where
    made : (os : List Op) (kind : Kind) (ts : List HwType) (rs : List Ref) (x : Ref) → sub_zero os kind ts rs ≡ Some x → is_made kind ≡ true
    made os sub ts rs x is = refl
    made os _ ts rs x is = cc

    stands : (os : List Op) (kind : Kind) (ts : List HwType) (rs : List Ref) (x : Ref) (type_of : Ref → Option HwType) (t : HwType)
        → sub_zero os kind ts rs ≡ Some x → Known os kind ts rs type_of t → Stands os kind ts rs x type_of t
    stands os sub ts rs x type_of t is known =
        let two = first_is (is_constant_where is_zero os) rs x is in
        subst (λ q. Stands os sub ts q x type_of t) (sym two.operands)
        (sub_stands os ts x two.second type_of t two.met (subst (λ q. Known os sub ts q type_of t) two.operands known))
    stands os _ ts rs x type_of t is known = cc

-- ---- shifts

unshifted : (s : Shift) (x : Word) → shift_value s x 0 ≡ x
unshifted shl x = shift_left-zero x
unshifted shru x = shift_right-zero x
unshifted shrs x = shift_right_signed-zero x

shift_stands : (os : List Op) (s : Shift) (ts : List HwType) (x y : Ref) (type_of : Ref → Option HwType) (t : HwType) → is_constant_where is_zero os y ≡ true
    → Known os (shift s) ts (x ∷ y ∷ []) type_of t → Stands os (shift s) ts (x ∷ y ∷ []) x type_of t
shift_stands os s ts x y type_of t met known =
    let zero = meets_is is_zero (constant_at os y) met in
    record {
      named = inl refl;
      typed = first_typed (type_of x) (type_of y) known.fits;
      words = λ τ held.
          ap (λ w. shift_value s (τ x) (number w)) (held.constants y zero.0 zero.1)
          ∙ ap (shift_value s (τ x)) (number_from (number zero.0) 0 zero.2) ∙ unshifted s (τ x);
    }

pub shift_zero_stands : IsStand shift_zero
shift_zero_stands = record { made = made; stands = stands }
  where
    made : (os : List Op) (kind : Kind) (ts : List HwType) (rs : List Ref) (x : Ref) → shift_zero os kind ts rs ≡ Some x → is_made kind ≡ true
    made os (shift s) ts rs x is = refl
    made os _ ts rs x is = cc

    stands : (os : List Op) (kind : Kind) (ts : List HwType) (rs : List Ref) (x : Ref) (type_of : Ref → Option HwType) (t : HwType)
        → shift_zero os kind ts rs ≡ Some x → Known os kind ts rs type_of t → Stands os kind ts rs x type_of t
    stands os (shift s) ts rs x type_of t is known =
        let two = first_is (is_constant_where is_zero os) rs x is in
        subst (λ q. Stands os (shift s) ts q x type_of t) (sym two.operands)
        (shift_stands os s ts x two.second type_of t two.met (subst (λ q. Known os (shift s) ts q type_of t) two.operands known))
    stands os _ ts rs x type_of t is known = cc

-- ---- quotients

-- a quotient by the bits of 1
IsQuotient : Division → Type 0
IsQuotient v = (x : Word) → division_value v x (bits (length x) 1) ≡ x

division_stands : (os : List Op) (v : Division) (ts : List HwType) (x y : Ref) (type_of : Ref → Option HwType) (t : HwType) → IsQuotient v
    → is_constant_where is_one os y ≡ true → Known os (division v) ts (x ∷ y ∷ []) type_of t → Stands os (division v) ts (x ∷ y ∷ []) x type_of t
unfolding IsQuotient
division_stands os v ts x y type_of t undivided met known =
    let one = meets_is is_one (constant_at os y) met in
    let typed = first_typed (type_of x) (type_of y) known.fits in
    let both : Some t ≡ Some (int (length one.0)) = sym (second_typed (type_of x) (type_of y) known.fits) ∙ known.constants y one.0 one.1 in
    let same : t ≡ int (length one.0) = cc in
    record {
      named = inl refl;
      typed = typed;
      words = λ τ held.
          ap (division_value v (τ x))
          (held.constants y one.0 one.1 ∙ one_is one.0 one.2 ∙ ap (λ n. bits n 1) (sym (ap width same) ∙ sym (held_width held x t typed)))
          ∙ undivided (τ x);
    }

pub div_one_stands : IsStand div_one
unfolding IsQuotient
div_one_stands = record { made = made; stands = stands }
  where
    made : (os : List Op) (kind : Kind) (ts : List HwType) (rs : List Ref) (x : Ref) → div_one os kind ts rs ≡ Some x → is_made kind ≡ true
    made os (division v) ts rs x is = refl
    made os _ ts rs x is = cc

    by_one : (os : List Op) (v : Division) (ts : List HwType) (rs : List Ref) (x : Ref) (type_of : Ref → Option HwType) (t : HwType)
        → IsQuotient v → first_where (is_constant_where is_one os) rs ≡ Some x → Known os (division v) ts rs type_of t → Stands os (division v) ts rs x type_of t
    by_one os v ts rs x type_of t undivided is known =
        let two = first_is (is_constant_where is_one os) rs x is in
        subst (λ q. Stands os (division v) ts q x type_of t) (sym two.operands)
        (division_stands os v ts x two.second type_of t undivided two.met (subst (λ q. Known os (division v) ts q type_of t) two.operands known))

    stands : (os : List Op) (kind : Kind) (ts : List HwType) (rs : List Ref) (x : Ref) (type_of : Ref → Option HwType) (t : HwType)
        → div_one os kind ts rs ≡ Some x → Known os kind ts rs type_of t → Stands os kind ts rs x type_of t
    stands os (division divu) ts rs x type_of t is known = by_one os divu ts rs x type_of t quotient_words-one is known
    stands os (division divs) ts rs x type_of t is known = by_one os divs ts rs x type_of t signed_quotient_words-one is known
    stands os _ ts rs x type_of t is known = cc
