-- Constants whose numbers their types read as one have the same words, and are zero together.
use Rattle.std.proofs.Common.{◌≡◌, ◌<◌, ◌≤◌, ◌+◌, ◌-◌, ◌^◌, ℕ, zero, suc, ℤ, pos, negsuc, true, false, not, nat_eq, List, length, Option, Some, None, refl, sym, ap, ap₂, ◌∙◌, ◌++◌, arith}
use Rattle.std.proofs.lemmas.Bool.Decides.{nat_tests}
use Rattle.wiring.proofs.Equal.{suc_zero}
use Rattle.bits_core.specs.Fields.{length-bits, number-bits-below}
use Rattle.bits_core.specs.Word.{Word, number, bits, bits_of_ℤ, not_word}
use Rattle.bits_core.proofs.Complement.{length-bits_of_ℤ, number-not}
use Rattle.bits_core.proofs.Numbers.{bits-number, number_below}
use Rattle.hw_model.specs.Types.{HwType, width}
use Rattle.hw_model.specs.Types.HwType.{int}
use Rattle.hw_model.specs.Kinds.{Kind, Literal, Literals}
use Rattle.hw_model.specs.Kinds.Literal.{leaf, parts}
use Rattle.hw_model.specs.Kinds.Literals.{no_literals, literal}
use Rattle.hw_model.specs.Kinds.Kind.{constant, aggregate_constant}
use Rattle.hw_model.specs.Value.{word_of_literal, word_of_literals, op_value}
use Rattle.op_checks.specs.LiteralChecks.{is_out_of_range}
use Rattle.op_verifier.specs.OpChecks.{is_nonzero, is_nonzero_kind}
use Rattle.cse_pass.specs.EqualOps.{value_number, value_literal, value_literals, value_kind}

-- ---- words

number_word : (t : HwType) (z : ℤ) → bits_of_ℤ (width t) (value_number t z) ≡ bits_of_ℤ (width t) z
number_word t z =
    ap (λ w. bits w (number (bits_of_ℤ (width t) z))) (sym (length-bits_of_ℤ (width t) z))
    ∙ bits-number (bits_of_ℤ (width t) z)

mutual
  literal_word : (l : Literal) → word_of_literal (value_literal l) ≡ word_of_literal l
  literal_word (leaf z t) = number_word t z
  literal_word (parts ls) = literals_word ls

  literals_word : (ls : Literals) → word_of_literals (value_literals ls) ≡ word_of_literals ls
  literals_word no_literals = refl
  literals_word (literal l ls) = ap₂ (λ x y. x ++ y) (literal_word l) (literals_word ls)

-- a kind gives the same word as with numbers read by the type
pub kind_word : (x : Option HwType) (kind : Kind) (ts : List HwType) (t : HwType) (k : ℕ) (xs : List Word) → ((z : ℤ) → kind ≡ constant z → x ≡ Some t)
    → op_value (value_kind x kind) ts t k xs ≡ op_value kind ts t k xs
kind_word (Some u) (constant z) ts t k xs typed =
    let both : Some u ≡ Some t = typed z refl in
    let same : t ≡ u = cc in
    ap (λ v. bits_of_ℤ (width v) (value_number u z)) same ∙ number_word u z ∙ ap (λ v. bits_of_ℤ (width v) z) (sym same)
kind_word None (constant z) ts t k xs typed = refl
kind_word (Some u) (aggregate_constant ls) ts t k xs typed = literals_word ls
kind_word None (aggregate_constant ls) ts t k xs typed = literals_word ls
kind_word (Some u) _ ts t k xs typed = refl
kind_word None _ ts t k xs typed = refl

-- ---- zero

-- a number in the range of an integer's type that is not zero is not read as zero
nonzero_read : (w : ℕ) (z : ℤ) → 1 ≤ w → is_out_of_range z w ≡ false → is_nonzero z ≡ true → number (bits_of_ℤ w z) ≡ 0 → ⊥
unfolding is_out_of_range
nonzero_read w (pos n) some range other read =
    let below : n < 2 ^ w = grind (arith, nat_tests, range) in
    let is : n ≡ 0 = sym (number-bits-below w n below) ∙ read in
    let clash : true ≡ false = sym other ∙ ap (λ m. not (nat_eq m 0)) is in cc
nonzero_read zero (negsuc n) some range other read = absurd (omega (arith, some))
nonzero_read (suc w) (negsuc n) some range other read =
    let less : suc w - 1 ≡ w = omega arith in
    let below : n < 2 ^ w = grind (arith, nat_tests, range, less) in
    let within : n < 2 ^ suc w = omega (arith, below) in
    let sum : number (not_word (bits (suc w) n)) + number (bits (suc w) n) + 1 ≡ 2 ^ length (bits (suc w) n) = number-not (bits (suc w) n) in
    let long : 2 ^ length (bits (suc w) n) ≡ 2 ^ suc w = ap (λ m. 2 ^ m) (length-bits (suc w) n) in
    let is : number (bits (suc w) n) ≡ n = number-bits-below (suc w) n within in
    let none : number (not_word (bits (suc w) n)) ≡ 0 = read in
    absurd (omega (arith, sum, long, is, none, below))

-- numbers in the range of an integer's type that it reads as one are zero together
pub same_nonzero : (w : ℕ) (y z : ℤ) → 1 ≤ w → is_out_of_range y w ≡ false → value_number (int w) y ≡ value_number (int w) z → is_nonzero y ≡ true → is_nonzero z ≡ true
same_nonzero w y (negsuc n) some range same other = refl
same_nonzero w y (pos (suc n)) some range same other = ap not (suc_zero n)
same_nonzero w y (pos zero) some range same other =
    let one : number (bits_of_ℤ w y) ≡ number (bits w 0) = cc in
    let under : number (bits w 0) < 2 ^ length (bits w 0) = number_below (bits w 0) in
    let long : 2 ^ length (bits w 0) ≡ 2 ^ w = ap (λ m. 2 ^ m) (length-bits w 0) in
    absurd (nonzero_read w y some range other (one ∙ number-bits-below w 0 (omega (arith, under, long))))

-- so are constants of the type
pub nonzero_too : (w : ℕ) (y : ℤ) (kind : Kind) → 1 ≤ w → is_out_of_range y w ≡ false → value_kind (Some (int w)) (constant y) ≡ value_kind (Some (int w)) kind
    → is_nonzero y ≡ true → is_nonzero_kind kind ≡ true
nonzero_too w y (constant z) some range same other = let numbers : value_number (int w) y ≡ value_number (int w) z = cc in same_nonzero w y z some range numbers other
nonzero_too w y (aggregate_constant ls) some range same other = cc
nonzero_too w y _ some range same other = cc
