-- Numbers are read as what they say.
use Rattle.std.proofs.Common.{◌≡◌, inl, inr, ℕ, suc, ◌+◌, ◌-◌, ◌*◌, ◌/◌, ◌%◌, ◌^◌, ◌<◌, ◌≤◌, Bool, true, false, ◌&&◌, ◌==◌, cond, List, [], ◌∷◌, ◌++◌, length, refl, sym, ◌∙◌, ap, arith, add-one, decimal}
use Rattle.std.specs.Prelude.{codes, ℤ, pos, negsuc}
use Rattle.std.proofs.lemmas.Fmt.{decimal_by_steps_wide}
use Rattle.std.proofs.lemmas.List.{length-append}
use Rattle.std.proofs.lemmas.Bool.{cond-true, cond-false, eqb-true, eq-eqb, and_right}
use Rattle.diag.specs.declared.refusal.Location.{Location}
use Rattle.mlir_lexer.specs.Classes.{is_space, is_digit, is_hex_digit, is_name_byte, is_name_start, is_suffix_byte}
use Rattle.mlir_lexer.specs.Runs.{run, begins}
use Rattle.mlir_lexer.specs.Contents.{content_of, hex_value}
use Rattle.mlir_lexer.specs.Prefixes.{suffix_length, prefix_of, sign_prefix, number_prefix, is_hex_mark}
use Rattle.mlir_lexer.specs.Tokens.{TextToken}
use Rattle.mlir_lexer.specs.declared.token.TokenKind.TheVariants as kind
use Rattle.mlir_lexer.specs.declared.prefixes.Prefix.TheVariants.{LineEnd, Token}
use Rattle.mlir_syntax.specs.Numerals.{number_in, number_of, count_limit, number_limit, negative}
use Rattle.mlir_syntax.specs.Spelling.{One, Mark, Then, AreDigits, WidthPhrase, NumberPhrase, IntegerPhrase}
use Rattle.mlir_printer.specs.Strings.{is_bare}
use Rattle.printing_laws.specs.Numbers.{count_bytes, further_bytes, integer_bytes}
use Rattle.stored_form.specs.Limits.{IsInteger}
use Rattle.mlir_printer.proofs.lexed.LexedTexts.{lexed_by, Stops, IsLexed, Lexed, one_token, joined, lexed_as}
use Rattle.mlir_printer.proofs.lexed.LexedStrings.{unlike_byte}
use Rattle.mlir_printer.proofs.lexed.LexedNames.{bare_lexed, signed_lexed, run_wider, run_whole, run_stops, digit_stops, none_zero}

-- ---- digits

-- digits that stand for a number
pub record IsNumeral (n : ℕ) (ds : List ℕ) : Type 0 where
  pub some : 1 ≤ length ds
  pub whole : run is_digit ds ≡ length ds
  pub value : number_in 10 0 ds ≡ n

digit_of : (d : ℕ) → d < 10 → is_digit (48 + d) ≡ true
digit_of d small = grind (arith, small)

value_of : (d : ℕ) → d < 10 → hex_value (48 + d) ≡ d
value_of d small = cond-true (is_digit (48 + d)) _ _ (digit_of d small) ∙ omega arith

run_joined : (xs : List ℕ) (d : ℕ) → run is_digit xs ≡ length xs → is_digit d ≡ true → run is_digit (xs ++ (d ∷ [])) ≡ length (xs ++ (d ∷ []))
run_joined [] d h digit = cond-true (is_digit d) 1 0 digit
run_joined (x ∷ xs) d h digit = go (is_digit x) refl h (λ e. run_joined xs d e digit)
  where
    go : (t : Bool) → is_digit x ≡ t → cond t (run is_digit xs + 1) 0 ≡ suc (length xs)
        → (run is_digit xs ≡ length xs → run is_digit (xs ++ (d ∷ [])) ≡ length (xs ++ (d ∷ [])))
        → run is_digit (x ∷ (xs ++ (d ∷ []))) ≡ suc (length (xs ++ (d ∷ [])))
    go true e h more =
        let less : run is_digit xs ≡ length xs = omega (arith, h) in
        cond-true (is_digit x) _ 0 e ∙ ap (λ n. n + 1) (more less) ∙ add-one (length (xs ++ (d ∷ [])))
    go false e h more = absurd (omega (arith, h))

number_joined : (prefix : ℕ) (xs : List ℕ) (d : ℕ) → number_in 10 prefix (xs ++ (d ∷ [])) ≡ number_in 10 prefix xs * 10 + hex_value d
number_joined prefix [] d = refl
number_joined prefix (x ∷ xs) d = number_joined (prefix * 10 + hex_value x) xs d

one_digit : (n : ℕ) → n < 10 → IsNumeral n ((48 + n) ∷ [])
one_digit n small =
    let value = value_of n small in
    record { some = omega arith; whole = cond-true (is_digit (48 + n)) 1 0 (digit_of n small); value = omega (arith, value) }

more_digits : (n : ℕ) (ds : List ℕ) → 10 ≤ n → IsNumeral (n / 10) ds → IsNumeral n (ds ++ ((48 + n % 10) ∷ []))
more_digits n ds big h =
    let small : n % 10 < 10 = omega arith in
    let value = value_of (n % 10) small in
    let count = length-append ds ((48 + n % 10) ∷ []) in
    let some = h.some in
    let prefix = h.value in
    let all = number_joined 0 ds (48 + n % 10) in
    record {
      some = omega (arith, count, some);
      whole = run_joined ds (48 + n % 10) h.whole (digit_of (n % 10) small);
      value = all ∙ rw (prefix, value) (omega arith);
    }

pub numeral : (n : ℕ) → n < 10 ^ 64 → IsNumeral n (decimal n)
numeral = decimal_by_steps_wide IsNumeral one_digit more_digits

pub digits_of : (n : ℕ) → n < count_limit → AreDigits (decimal n) n
digits_of n small =
    let h = numeral n (omega (arith, small)) in
    let some = h.some in
    (some, h.whole, h.value, small)

-- ---- integer tokens

digit_no_start : (b : ℕ) → is_digit b ≡ true → is_name_start b ≡ false
digit_no_start b h = grind (arith, h)

digit_prefix : (b : ℕ) (bs : List ℕ) → is_digit b ≡ true → prefix_of b bs ≡ number_prefix b bs
unfolding prefix_of
digit_prefix b bs h =
    let line = unlike_byte is_digit b 10 refl h in
    let space : is_space b ≡ false = grind (arith, h) in
    cond-false (b == 10) LineEnd _ line ∙ cond-false (is_space b) _ _ space ∙ cond-false (is_name_start b) _ _ (digit_no_start b h)
    ∙ cond-true (is_digit b) _ _ h

-- a number goes no further: neither by a digit nor as one in another base
pub record EndsNumber (rest : List ℕ) : Type 0 where
  pub digits : run is_digit rest ≡ 0
  pub base : is_hex_mark rest ≡ false

base_ends : (rest : List ℕ) → Stops rest → is_hex_mark rest ≡ false
base_ends [] stops = refl
base_ends (b ∷ bs) stops = go (b == 120) refl
  where
    go : (e : Bool) → (b == 120) ≡ e → (e && begins is_hex_digit bs) ≡ false
    go true e = let same : b ≡ 120 = eqb-true b 120 e in absurd (cc (ap is_suffix_byte same))
    go false e = refl

pub ends_number : (rest : List ℕ) → Stops rest → EndsNumber rest
ends_number rest stops = record { digits = run_stops is_digit rest digit_stops stops; base = base_ends rest stops }

-- after a digit stands no other base
no_base : (bs rest : List ℕ) → run is_digit bs ≡ length bs → EndsNumber rest → is_hex_mark (bs ++ rest) ≡ false
no_base [] rest whole ends = ends.base
no_base (b ∷ bs) rest whole ends = go (is_digit b) refl whole
  where
    go : (t : Bool) → is_digit b ≡ t → cond t (run is_digit bs + 1) 0 ≡ suc (length bs) → is_hex_mark (b ∷ (bs ++ rest)) ≡ false
    go true e h = ap (λ t. t && begins is_hex_digit (bs ++ rest)) (unlike_byte is_digit b 120 refl e)
    go false e h = absurd (omega (arith, h))

-- the first of some digits is one, and so are the others
first_digit : (b : ℕ) (bs : List ℕ) → run is_digit (b ∷ bs) ≡ length (b ∷ bs) → (is_digit b ≡ true) × (run is_digit bs ≡ length bs)
first_digit b bs h = go (is_digit b) refl h
  where
    go : (t : Bool) → is_digit b ≡ t → cond t (run is_digit bs + 1) 0 ≡ suc (length bs) → (is_digit b ≡ true) × (run is_digit bs ≡ length bs)
    go true e h = (e, omega (arith, h))
    go false e h = absurd (omega (arith, h))

digits_number : (b : ℕ) (bs : List ℕ) → run is_digit (b ∷ bs) ≡ length (b ∷ bs) → number_of (b ∷ bs) ≡ number_in 10 0 (b ∷ bs)
digits_number b [] h = refl
digits_number b (c ∷ cs) h =
    let (digit, more) = first_digit b (c ∷ cs) h in
    let (second, others) = first_digit c cs more in
    cond-false (c == 120) _ _ (unlike_byte is_digit c 120 refl second)

pub number_token : (limit n : ℕ) → n < limit → (ds : List ℕ) → IsNumeral n ds → (rest : List ℕ) → EndsNumber rest
    → (location : Location) (at : ℕ) → IsLexed (NumberPhrase limit n) ds rest location at
number_token limit n small [] h rest ends location at = absurd (let some = h.some in omega (arith, some))
number_token limit n small (b ∷ bs) h rest ends location at =
    let (digit, others) = first_digit b bs h.whole in
    let more = run_whole is_digit bs rest others ends.digits in
    let plain : number_prefix b (bs ++ rest) ≡ Token kind.Integer (run is_digit (bs ++ rest) + 1) =
    cond-false (b == 48 && is_hex_mark (bs ++ rest)) _ _ (and_right (b == 48) (is_hex_mark (bs ++ rest)) (no_base bs rest others ends)) in
    let one = one_token b bs rest location at (digit_prefix b (bs ++ rest) digit ∙ plain) (ap (λ n. n + 1) more)
    (λ t k e. (k, ap number_of e ∙ digits_number b bs h.whole ∙ h.value)) in
    record { passed = one.passed; end = one.end; following = one.following; same = one.same; says = (small, one.says) }

-- a number is read as itself
pub number_lexed : (limit n : ℕ) → n < limit → n < 10 ^ 64 → Lexed (NumberPhrase limit n) (count_bytes n)
unfolding count_bytes
number_lexed limit n small short = record {
  lex = λ rest location at stops. number_token limit n small (decimal n) (numeral n short) rest (ends_number rest stops) location at;
}

pub count_lexed : (n : ℕ) → n < count_limit → Lexed (NumberPhrase count_limit n) (count_bytes n)
count_lexed n small = number_lexed count_limit n small (omega (arith, small))

-- ---- numbers within packs

suffix_digits : (ds : List ℕ) → 1 ≤ length ds → run is_digit ds ≡ length ds
    → (suffix_length ds ≡ length ds) × ((rest : List ℕ) → begins is_digit (ds ++ rest) ≡ true)
suffix_digits [] some whole = absurd (omega (arith, some))
suffix_digits (b ∷ bs) some whole =
    let (digit, others) = first_digit b bs whole in (cond-true (is_digit b) _ _ digit ∙ whole, λ rest. digit)

-- `#i`
pub pack_number_lexed : (n : ℕ) → n < count_limit
    → Lexed (One (λ (t : TextToken). (t.kind ≡ kind.ResultNumber) × (number_in 10 0 (content_of kind.ResultNumber t.text) ≡ n))) (35 ∷ count_bytes n)
unfolding prefix_of sign_prefix count_bytes
pack_number_lexed n small =
    let (some, whole, value, _) = digits_of n small in
    let (suffix, first) = suffix_digits (decimal n) some whole in
    lexed_as (λ ts p. (p.0, p.1, (p.2.0, ap (λ x. number_in 10 0 (content_of kind.ResultNumber x)) p.2.1 ∙ value)))
    (signed_lexed {k = kind.ResultNumber} 35 (decimal n) (λ rest. cond-true _ _ _ (first rest)) some suffix)

-- ---- widths

digit_in_name : (b : ℕ) → is_digit b ≡ true → is_name_byte b ≡ true
digit_in_name b h = grind (arith, h)

bare_width : (ds : List ℕ) → run is_digit ds ≡ length ds → is_bare (105 ∷ ds) ≡ true
bare_width ds whole = eq-eqb _ _ (run_wider is_digit is_name_byte ds digit_in_name whole)

bare_glued : (ds : List ℕ) → run is_digit ds ≡ length ds → is_bare (120 ∷ 105 ∷ ds) ≡ true
bare_glued ds whole = eq-eqb _ _ (ap (λ n. n + 1) (run_wider is_digit is_name_byte ds digit_in_name whole) ∙ add-one (length ds))

-- `iW`
pub width_lexed : (w : ℕ) → w < count_limit → Lexed (WidthPhrase (codes "i") w) (codes "i" ++ count_bytes w)
unfolding count_bytes
width_lexed w small =
    let digits = digits_of w small in
    lexed_as (λ ts p. (p.0, p.1, (p.2.0, (decimal w, p.2.1, digits)))) (bare_lexed (105 ∷ decimal w) (bare_width (decimal w) digits.1))

-- `xiW`
pub glued_lexed : (w : ℕ) → w < count_limit → Lexed (WidthPhrase (codes "xi") w) (codes "x" ++ (codes "i" ++ count_bytes w))
unfolding count_bytes
glued_lexed w small =
    let digits = digits_of w small in
    lexed_as (λ ts p. (p.0, p.1, (p.2.0, (decimal w, p.2.1, digits)))) (bare_lexed (120 ∷ 105 ∷ decimal w) (bare_glued (decimal w) digits.1))

-- ---- integers

minus_token : (ds rest : List ℕ) → 1 ≤ length ds → run is_digit ds ≡ length ds → (location : Location) (at : ℕ)
    → IsLexed (Mark kind.Minus) (45 ∷ []) (ds ++ rest) location at
unfolding prefix_of sign_prefix
minus_token [] rest some whole location at = absurd (omega (arith, some))
minus_token (b ∷ bs) rest some whole location at =
    let (digit, others) = first_digit b bs whole in
    one_token 45 [] ((b ∷ bs) ++ rest) location at (cond-false (b == 62) _ _ (unlike_byte is_digit b 62 refl digit)) refl (λ t k e. k)

further_is : (n : ℕ) → suc n < number_limit → further_bytes n ≡ decimal (n + 1)
further_is n small = let other : (n == 340282366920938463463374607431768211455) ≡ false = grind (arith, small) in cond-false _ _ _ other

negative_is : (n : ℕ) → negsuc n ≡ negative (n + 1)
negative_is n =
    let other : (n + 1 == 0) ≡ false = none_zero (n + 1) (omega arith) in
    let back : n ≡ n + 1 - 1 = omega arith in
    ap negsuc back ∙ sym (cond-false (n + 1 == 0) (pos 0) (negsuc (n + 1 - 1)) other)

minus_lexed : (n : ℕ) → suc n < number_limit → Lexed (Then (Mark kind.Minus) (NumberPhrase number_limit (n + 1))) (codes "-" ++ decimal (n + 1))
minus_lexed n small = record {
  lex = λ rest location at stops.
      let h = numeral (n + 1) (omega (arith, small)) in
      let one = minus_token (decimal (n + 1)) rest h.some h.whole location at in
      joined one (number_token number_limit (n + 1) (omega (arith, small)) (decimal (n + 1)) h rest (ends_number rest stops) one.end one.following);
}

-- an integer is read with its sign
pub integer_lexed : (z : ℤ) → IsInteger z → Lexed (IntegerPhrase z) (integer_bytes z)
unfolding integer_bytes count_bytes
integer_lexed (pos n) small = lexed_as (λ ts h. inl (n, refl, h)) (number_lexed number_limit n small (omega (arith, small)))
integer_lexed (negsuc n) small =
    lexed_as (λ ts h. inr (n + 1, negative_is n, h)) (lexed_by (ap (λ x. codes "-" ++ x) (sym (further_is n small))) (minus_lexed n small))
