-- Operations that always give one number: a difference of equals, what is shifted out, rests by 1, comparisons of equals.
use Rattle.std.proofs.Common.{◌≡◌, ℕ, ◌^◌, ◌<◌, ◌≤◌, Bool, true, false, cond, not, List, [], ◌∷◌, length, Option, Some, None, refl, sym, ap, subst, ◌∙◌, inl, arith, pow_pos}
use Rattle.std.proofs.lemmas.Bool.{leb-true}
use Rattle.bits_core.specs.SameWord.{same_word_self}
use Rattle.bits_core.specs.Word.{Word, bit, number, bits, zeros, flag, sub as difference, xor_words}
use Rattle.bits_core.proofs.Arithmetic.{sub_words_self, rest_words-one, signed_rest_words-one}
use Rattle.bits_core.proofs.Bitwise.{xor_words-zeros, xor_words_self}
use Rattle.bits_core.proofs.Extension.{bits-bit}
use Rattle.bits_core.proofs.Order.{less_self, signed_less_self}
use Rattle.bits_core.proofs.Shifts.{shift_left_out, shift_right_out}
use Rattle.bits_core.proofs.Storage.{bits-zero}
use Rattle.hw_model.specs.Types.{HwType, width}
use Rattle.hw_model.specs.Types.HwType.{int}
use Rattle.hw_model.specs.Kinds.{Kind, Predicate, Shift, Division}
use Rattle.hw_model.specs.Kinds.Predicate.{eq, ne, slt, sle, sgt, sge, ult, ule, ugt, uge, ceq, cne, weq, wne}
use Rattle.hw_model.specs.Kinds.Shift.{shl, shru}
use Rattle.hw_model.specs.Kinds.Division.{modu, mods}
use Rattle.hw_model.specs.Kinds.Variadic.{xor}
use Rattle.hw_model.specs.Kinds.Kind.{variadic, sub, division, shift, icmp}
use Rattle.hw_model.specs.Design.{Ref, Op}
use Rattle.hw_model.specs.Value.{compare, division_value, shift_value}
use Rattle.ir_store.specs.Positions.{same_ref}
use Rattle.type_inference.specs.ResultTypes.{result_type as type_of_result}
use Rattle.op_checks.specs.TypeChecks.{is_outside}
use Rattle.op_checks.specs.CountChecks.{type_count}
use Rattle.op_checks.specs.OperandChecks.{has_other_form}
use Rattle.fold_laws.specs.Constants.{constant_at, is_constant_where, is_one, shifts_out}
use Rattle.fold_laws.specs.Numbers.{number_where, sub_self, xor_self, shift_out, rest_by_one, holds_of_equals, icmp_self}
use Rattle.fold_laws.proofs.Choices.{ref_from}
use Rattle.fold_laws.proofs.Constants.{meets_is, one_is}
use Rattle.fold_laws.proofs.IntegerTypes.{IsIntegerType, integer_first}
use Rattle.fold_laws.proofs.MadeKinds.{is_made}
use Rattle.fold_laws.proofs.NeutralSecond.{first_typed, second_typed}
use Rattle.fold_laws.proofs.Numbered.{Makes, IsNumbering}
use Rattle.fold_laws.proofs.Stands.{Known, Held, held_width}

-- ---- operands and types

-- a number that two operands give where they meet a test: what it makes of such two, it makes wherever it is given
of_two_makes : (os : List Op) (kind : Kind) (test : Ref → Ref → Bool) (m : ℕ) (ts : List HwType) (rs : List Ref) (n : ℕ) (type_of : Ref → Option HwType) (t : HwType)
    → ((x y : Ref) → test x y ≡ true → m ≡ n → Known os kind ts (x ∷ y ∷ []) type_of t → Makes os kind ts (x ∷ y ∷ []) n type_of t)
    → number_where test m rs ≡ Some n → Known os kind ts rs type_of t → Makes os kind ts rs n type_of t
of_two_makes os kind test m ts [] n type_of t each is known = cc
of_two_makes os kind test m ts (x ∷ []) n type_of t each is known = cc
of_two_makes os kind test m ts (x ∷ y ∷ []) n type_of t each is known = go (test x y) refl is
  where
    go : (b : Bool) → test x y ≡ b → cond b (Some m) None ≡ Some n → Makes os kind ts (x ∷ y ∷ []) n type_of t
    go true met e = let number_is : m ≡ n = cc in each x y met number_is known
    go false met e = cc
of_two_makes os kind test m ts (x ∷ y ∷ z ∷ rs) n type_of t each is known = cc

-- the word of a value of that type is as wide
integer_width : {os : List Op} {type_of : Ref → Option HwType} {τ : Ref → Word} {t : HwType} → (integer : IsIntegerType t) → Held os type_of τ → (r : Ref) → type_of r ≡ Some t
    → length (τ r) ≡ integer.bits_of
integer_width {os} {type_of} {τ} {t} integer held r typed = held_width held r t typed ∙ ap width integer.type_is

-- a word of 0 of a width
zero_word : (x : Word) (w : ℕ) → length x ≡ w → zeros (length x) ≡ bits w 0
zero_word x w size = ap zeros size ∙ sym (bits-zero w)

-- ---- a difference of equals

sub_makes : (os : List Op) (ts : List HwType) (x y : Ref) (n : ℕ) (type_of : Ref → Option HwType) (t : HwType) → same_ref x y ≡ true → 0 ≡ n
    → Known os sub ts (x ∷ y ∷ []) type_of t → Makes os sub ts (x ∷ y ∷ []) n type_of t
unfolding has_other_form type_of_result type_count
sub_makes os ts x y n type_of t met is known =
    let integer = integer_first ts t known.written known.form known.limits known.settled in
    let typed = first_typed (type_of x) (type_of y) known.fits in
    record {
      bits_of = integer.bits_of;
      type_is = integer.type_is;
      within = integer.within;
      small = subst (λ m. m < 2 ^ integer.bits_of) is (pow_pos integer.bits_of);
      weighs = λ inner. omega arith;
      words = λ τ held.
          ap (λ z. difference (τ x) (τ z)) (sym (ref_from x y met)) ∙ sub_words_self (τ x)
          ∙ zero_word (τ x) integer.bits_of (integer_width integer held x typed) ∙ ap (bits integer.bits_of) is;
    }

pub sub_self_makes : IsNumbering sub_self
sub_self_makes = record { made = made; makes = makes }
  where
    made : (os : List Op) (kind : Kind) (ts : List HwType) (t : HwType) (rs : List Ref) (n : ℕ) → sub_self os kind ts t rs ≡ Some n → is_made kind ≡ true
    made os sub ts t rs n is = refl
    made os _ ts t rs n is = cc

    makes : (os : List Op) (kind : Kind) (ts : List HwType) (rs : List Ref) (n : ℕ) (type_of : Ref → Option HwType) (t : HwType)
        → sub_self os kind ts t rs ≡ Some n → Known os kind ts rs type_of t → Makes os kind ts rs n type_of t
    makes os sub ts rs n type_of t is known = of_two_makes os sub same_ref 0 ts rs n type_of t (λ x y. sub_makes os ts x y n type_of t) is known
    makes os _ ts rs n type_of t is known = cc

-- ---- an exclusive or of equals

xor_makes : (os : List Op) (ts : List HwType) (x y : Ref) (n : ℕ) (type_of : Ref → Option HwType) (t : HwType) → same_ref x y ≡ true → 0 ≡ n
    → Known os (variadic xor) ts (x ∷ y ∷ []) type_of t → Makes os (variadic xor) ts (x ∷ y ∷ []) n type_of t
unfolding has_other_form type_of_result type_count
xor_makes os ts x y n type_of t met is known =
    let integer = integer_first ts t known.written known.form known.limits known.settled in
    let typed = known.fits (type_of x) (inl refl) in
    record {
      bits_of = integer.bits_of;
      type_is = integer.type_is;
      within = integer.within;
      small = subst (λ m. m < 2 ^ integer.bits_of) is (pow_pos integer.bits_of);
      weighs = λ inner. omega arith;
      words = λ τ held.
          let size = integer_width integer held x typed in
          ap (λ z. xor_words (τ x) (xor_words (τ z) (zeros (width t)))) (sym (ref_from x y met))
          ∙ ap (λ m. xor_words (τ x) (xor_words (τ x) (zeros m))) (sym (held_width held x t typed))
          ∙ ap (xor_words (τ x)) (xor_words-zeros (τ x)) ∙ xor_words_self (τ x)
          ∙ zero_word (τ x) integer.bits_of size ∙ ap (bits integer.bits_of) is;
    }

pub xor_self_makes : IsNumbering xor_self
xor_self_makes = record { made = made; makes = makes }
  where
    made : (os : List Op) (kind : Kind) (ts : List HwType) (t : HwType) (rs : List Ref) (n : ℕ) → xor_self os kind ts t rs ≡ Some n → is_made kind ≡ true
    made os (variadic v) ts t rs n is = refl
    made os _ ts t rs n is = cc

    makes : (os : List Op) (kind : Kind) (ts : List HwType) (rs : List Ref) (n : ℕ) (type_of : Ref → Option HwType) (t : HwType)
        → xor_self os kind ts t rs ≡ Some n → Known os kind ts rs type_of t → Makes os kind ts rs n type_of t
    makes os (variadic xor) ts rs n type_of t is known = of_two_makes os (variadic xor) same_ref 0 ts rs n type_of t (λ x y. xor_makes os ts x y n type_of t) is known
    makes os _ ts rs n type_of t is known = cc

-- ---- shifted out

-- a shift that leaves nothing where it shifts by the width or more
LeavesNothing : Shift → Type 0
LeavesNothing s = (x : Word) (n : ℕ) → length x ≤ n → shift_value s x n ≡ zeros (length x)

shift_makes : (os : List Op) (s : Shift) (ts : List HwType) (x y : Ref) (n : ℕ) (type_of : Ref → Option HwType) (t : HwType) → LeavesNothing s
    → is_constant_where shifts_out os y ≡ true → 0 ≡ n → Known os (shift s) ts (x ∷ y ∷ []) type_of t → Makes os (shift s) ts (x ∷ y ∷ []) n type_of t
unfolding has_other_form type_of_result type_count LeavesNothing
shift_makes os s ts x y n type_of t nothing met is known =
    let integer = integer_first ts t known.written known.form known.limits known.settled in
    let amount = meets_is shifts_out (constant_at os y) met in
    let typed = first_typed (type_of x) (type_of y) known.fits in
    let both : Some t ≡ Some (int (length amount.0)) = sym (second_typed (type_of x) (type_of y) known.fits) ∙ known.constants y amount.0 amount.1 in
    let same : t ≡ int (length amount.0) = cc in
    let past : length amount.0 ≤ number amount.0 = leb-true (length amount.0) (number amount.0) amount.2 in
    record {
      bits_of = integer.bits_of;
      type_is = integer.type_is;
      within = integer.within;
      small = subst (λ m. m < 2 ^ integer.bits_of) is (pow_pos integer.bits_of);
      weighs = λ inner. omega arith;
      words = λ τ held.
          ap (λ w. shift_value s (τ x) (number w)) (held.constants y amount.0 amount.1)
          ∙ nothing (τ x) (number amount.0) (subst (λ m. m ≤ number amount.0) (sym (held_width held x t typed ∙ ap width same)) past)
          ∙ zero_word (τ x) integer.bits_of (integer_width integer held x typed) ∙ ap (bits integer.bits_of) is;
    }

pub shift_out_makes : IsNumbering shift_out
unfolding LeavesNothing
shift_out_makes = record { made = made; makes = makes }
  where
    made : (os : List Op) (kind : Kind) (ts : List HwType) (t : HwType) (rs : List Ref) (n : ℕ) → shift_out os kind ts t rs ≡ Some n → is_made kind ≡ true
    made os (shift s) ts t rs n is = refl
    made os _ ts t rs n is = cc

    makes : (os : List Op) (kind : Kind) (ts : List HwType) (rs : List Ref) (n : ℕ) (type_of : Ref → Option HwType) (t : HwType)
        → shift_out os kind ts t rs ≡ Some n → Known os kind ts rs type_of t → Makes os kind ts rs n type_of t
    makes os (shift shl) ts rs n type_of t is known =
        of_two_makes os (shift shl) (λ x y. is_constant_where shifts_out os y) 0 ts rs n type_of t (λ x y. shift_makes os shl ts x y n type_of t shift_left_out) is known
    makes os (shift shru) ts rs n type_of t is known =
        of_two_makes os (shift shru) (λ x y. is_constant_where shifts_out os y) 0 ts rs n type_of t (λ x y. shift_makes os shru ts x y n type_of t shift_right_out) is known
    makes os _ ts rs n type_of t is known = cc

-- ---- rests by 1

-- a division that leaves nothing by the bits of 1
LeavesNoRest : Division → Type 0
LeavesNoRest v = (x : Word) → division_value v x (bits (length x) 1) ≡ zeros (length x)

rest_makes : (os : List Op) (v : Division) (ts : List HwType) (x y : Ref) (n : ℕ) (type_of : Ref → Option HwType) (t : HwType) → LeavesNoRest v
    → is_constant_where is_one os y ≡ true → 0 ≡ n → Known os (division v) ts (x ∷ y ∷ []) type_of t → Makes os (division v) ts (x ∷ y ∷ []) n type_of t
unfolding has_other_form type_of_result type_count LeavesNoRest
rest_makes os v ts x y n type_of t nothing met is known =
    let integer = integer_first ts t known.written known.form known.limits known.settled in
    let one = meets_is is_one (constant_at os y) met in
    let typed = first_typed (type_of x) (type_of y) known.fits in
    let both : Some t ≡ Some (int (length one.0)) = sym (second_typed (type_of x) (type_of y) known.fits) ∙ known.constants y one.0 one.1 in
    let same : t ≡ int (length one.0) = cc in
    record {
      bits_of = integer.bits_of;
      type_is = integer.type_is;
      within = integer.within;
      small = subst (λ m. m < 2 ^ integer.bits_of) is (pow_pos integer.bits_of);
      weighs = λ inner. omega arith;
      words = λ τ held.
          ap (division_value v (τ x))
          (held.constants y one.0 one.1 ∙ one_is one.0 one.2 ∙ ap (λ m. bits m 1) (sym (ap width same) ∙ sym (held_width held x t typed)))
          ∙ nothing (τ x)
          ∙ zero_word (τ x) integer.bits_of (integer_width integer held x typed) ∙ ap (bits integer.bits_of) is;
    }

pub rest_by_one_makes : IsNumbering rest_by_one
unfolding LeavesNoRest
rest_by_one_makes = record { made = made; makes = makes }
  where
    made : (os : List Op) (kind : Kind) (ts : List HwType) (t : HwType) (rs : List Ref) (n : ℕ) → rest_by_one os kind ts t rs ≡ Some n → is_made kind ≡ true
    made os (division v) ts t rs n is = refl
    made os _ ts t rs n is = cc

    makes : (os : List Op) (kind : Kind) (ts : List HwType) (rs : List Ref) (n : ℕ) (type_of : Ref → Option HwType) (t : HwType)
        → rest_by_one os kind ts t rs ≡ Some n → Known os kind ts rs type_of t → Makes os kind ts rs n type_of t
    makes os (division modu) ts rs n type_of t is known =
        of_two_makes os (division modu) (λ x y. is_constant_where is_one os y) 0 ts rs n type_of t (λ x y. rest_makes os modu ts x y n type_of t rest_words-one) is known
    makes os (division mods) ts rs n type_of t is known =
        of_two_makes os (division mods) (λ x y. is_constant_where is_one os y) 0 ts rs n type_of t (λ x y. rest_makes os mods ts x y n type_of t signed_rest_words-one) is known
    makes os _ ts rs n type_of t is known = cc

-- ---- comparisons of equals

compare_self : (p : Predicate) (x : Word) → compare p x x ≡ holds_of_equals p
compare_self eq x = same_word_self x
compare_self ne x = ap not (same_word_self x)
compare_self slt x = signed_less_self x
compare_self sle x = ap not (signed_less_self x)
compare_self sgt x = signed_less_self x
compare_self sge x = ap not (signed_less_self x)
compare_self ult x = less_self x
compare_self ule x = ap not (less_self x)
compare_self ugt x = less_self x
compare_self uge x = ap not (less_self x)
compare_self ceq x = same_word_self x
compare_self cne x = ap not (same_word_self x)
compare_self weq x = same_word_self x
compare_self wne x = ap not (same_word_self x)

bit_small : (b : Bool) → bit b < 2 ^ 1
bit_small true = omega arith
bit_small false = omega arith

icmp_makes : (os : List Op) (p : Predicate) (ts : List HwType) (x y : Ref) (n : ℕ) (type_of : Ref → Option HwType) (t : HwType) → same_ref x y ≡ true
    → bit (holds_of_equals p) ≡ n → Known os (icmp p) ts (x ∷ y ∷ []) type_of t → Makes os (icmp p) ts (x ∷ y ∷ []) n type_of t
unfolding is_outside type_of_result
icmp_makes os p ts x y n type_of t met is known = record {
  bits_of = 1;
  type_is = known.settled;
  within = refl;
  small = subst (λ m. m < 2 ^ 1) is (bit_small (holds_of_equals p));
  weighs = λ inner. omega arith;
  words = λ τ held.
      ap (λ z. flag (compare p (τ x) (τ z))) (sym (ref_from x y met)) ∙ ap flag (compare_self p (τ x))
      ∙ sym (bits-bit (holds_of_equals p)) ∙ ap (bits 1) is;
}

pub icmp_self_makes : IsNumbering icmp_self
icmp_self_makes = record { made = made; makes = makes }
  where
    made : (os : List Op) (kind : Kind) (ts : List HwType) (t : HwType) (rs : List Ref) (n : ℕ) → icmp_self os kind ts t rs ≡ Some n → is_made kind ≡ true
    made os (icmp p) ts t rs n is = refl
    made os _ ts t rs n is = cc

    makes : (os : List Op) (kind : Kind) (ts : List HwType) (rs : List Ref) (n : ℕ) (type_of : Ref → Option HwType) (t : HwType)
        → icmp_self os kind ts t rs ≡ Some n → Known os kind ts rs type_of t → Makes os kind ts rs n type_of t
    makes os (icmp p) ts rs n type_of t is known =
        of_two_makes os (icmp p) same_ref (bit (holds_of_equals p)) ts rs n type_of t (λ x y. icmp_makes os p ts x y n type_of t) is known
    makes os _ ts rs n type_of t is known = cc
