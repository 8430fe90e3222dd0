-- Strings are read as what they hold.
use Rattle.std.proofs.Common.{◌≡◌, ℕ, zero, suc, ◌+◌, ◌-◌, ◌*◌, ◌/◌, ◌%◌, ◌<◌, Bool, true, false, ◌&&◌, not, ◌==◌, cond, List, [], ◌∷◌, ◌++◌, take, length, Option, Some, refl, sym, ◌∙◌, ap, arith, append_assoc}
use Rattle.std.specs.Option.{option_map}
use Rattle.std.proofs.lemmas.List.{length-append}
use Rattle.std.proofs.Math.Seq.{take-append_seam}
use Rattle.std.proofs.lemmas.Bool.{cond-true, cond-false, eqb-true, and_parts, not-true}
use Rattle.mlir_lexer.specs.Classes.{is_hex_digit}
use Rattle.mlir_lexer.specs.Strings.{is_escape_letter, reading_after, string_rest, string_length}
use Rattle.mlir_lexer.specs.Contents.{hex_value, decode, unescape, content_of}
use Rattle.mlir_lexer.specs.Prefixes.{prefix_of, sign_prefix, string_token}
use Rattle.mlir_lexer.specs.declared.token.TokenKind.TheVariants as kind
use Rattle.mlir_lexer.specs.declared.strings.Reading.TheVariants.{Plain, Escape, HexPair, Closed}
use Rattle.mlir_lexer.specs.declared.contents.Pending.TheVariants.{Nothing as NothingPending}
use Rattle.mlir_lexer.proofs.StringEnds.{string_rest-closed}
use Rattle.mlir_syntax.specs.Spelling.{Holding}
use Rattle.mlir_printer.specs.Strings.{is_plain, hex_digit, escaped_byte, escaped_bytes, string_bytes}
use Rattle.stored_form.specs.Bytes.{AreBytes}
use Rattle.mlir_printer.proofs.lexed.LexedTexts.{Whole, one_token}

-- ---- tests

-- a byte that meets a test is none that does not
pub unlike_byte : (test : ℕ → Bool) (b c : ℕ) → test c ≡ false → test b ≡ true → (b == c) ≡ false
unlike_byte test b c h g = go (b == c) refl
  where
    go : (e : Bool) → (b == c) ≡ e → e ≡ false
    go false e = refl
    go true e = let same : b ≡ c = eqb-true b c e in absurd (cc (ap test same))

all_below : ℕ → (ℕ → Bool) → Bool
all_below zero test = true
all_below (suc n) test = test n && all_below n test

of_this : (test : ℕ → Bool) (k n : ℕ) (e : Bool) → (n == k) ≡ e → n < suc k → test k ≡ true → (n < k → test n ≡ true) → test n ≡ true
of_this test k n true e small h later = ap test (eqb-true n k e) ∙ h
of_this test k n false e small h later = later (grind (arith, e, small))

of_all : (k : ℕ) (test : ℕ → Bool) → all_below k test ≡ true → (n : ℕ) → n < k → test n ≡ true
unfolding all_below
of_all zero test h n small = absurd (omega (arith, small))
of_all (suc k) test h n small =
    let (last, others) = and_parts (test k) (all_below k test) h in of_this test k n (n == k) refl small last (λ less. of_all k test others n less)

-- ---- hex digits

is_read_back : ℕ → Bool
is_read_back n = is_hex_digit (hex_digit n) && (not (is_escape_letter (hex_digit n)) && (hex_value (hex_digit n) == n))

record IsHex (n : ℕ) : Type 0 where
  digit : is_hex_digit (hex_digit n) ≡ true
  letter : is_escape_letter (hex_digit n) ≡ false
  value : hex_value (hex_digit n) ≡ n

is_hex : (n : ℕ) → n < 16 → IsHex n
unfolding is_read_back all_below
is_hex n small =
    let all : all_below 16 is_read_back ≡ true = refl in
    let (digit, more) = and_parts (is_hex_digit (hex_digit n)) _ (of_all 16 is_read_back all n small) in
    let (letter, value) = and_parts (not (is_escape_letter (hex_digit n))) _ more in
    record { digit = digit; letter = not-true _ letter; value = eqb-true _ _ value }

-- ---- bytes of a string

-- so many bytes more
counted : {more : Option ℕ} {n : ℕ} (k : ℕ) → more ≡ Some n → (m : ℕ) → m ≡ k + n → option_map (λ x. x + k) more ≡ Some m
counted {n = n} k e m count = let same : n + k ≡ m = omega (arith, count) in ap (option_map (λ x. x + k)) e ∙ ap Some same

-- a byte is read as itself
record IsRead (b : ℕ) (bytes : List ℕ) : Type 0 where
  rest : (left : List ℕ) (n : ℕ) → string_rest Plain left ≡ Some n → string_rest Plain (bytes ++ left) ≡ Some (length bytes + n)
  content : (left : List ℕ) → decode NothingPending (bytes ++ left) ≡ b ∷ decode NothingPending left

plain_read : (b : ℕ) → is_plain b ≡ true → IsRead b (b ∷ [])
plain_read b h =
    let quote : (b == 34) ≡ false = unlike_byte is_plain b 34 refl h in
    let back : (b == 92) ≡ false = unlike_byte is_plain b 92 refl h in
    let line : (b == 10) ≡ false = unlike_byte is_plain b 10 refl h in
    let plain : reading_after Plain b ≡ Plain = cond-false _ Closed _ quote ∙ cond-false _ Escape _ back ∙ cond-false _ _ Plain line in
    record {
      rest = λ left n e. counted 1 (ap (λ r. string_rest r left) plain ∙ e) (1 + n) refl;
      content = λ left. cond-false _ _ _ back;
    }

back_read : IsRead 92 (92 ∷ 92 ∷ [])
back_read = record {
  rest = λ left n e. counted 1 (counted 1 e (1 + n) refl) (2 + n) (omega arith);
  content = λ left. refl;
}

hex_read : (b : ℕ) → b < 256 → IsRead b (92 ∷ hex_digit (b / 16) ∷ hex_digit (b % 16) ∷ [])
hex_read b small =
    let high = is_hex (b / 16) (omega (arith, small)) in
    let low = is_hex (b % 16) (omega arith) in
    let escape : reading_after Escape (hex_digit (b / 16)) ≡ HexPair = cond-false _ Plain _ high.letter ∙ cond-true _ HexPair _ high.digit in
    let pair : reading_after HexPair (hex_digit (b % 16)) ≡ Plain = cond-true _ Plain _ low.digit in
    let value : hex_value (hex_digit (b / 16)) * 16 + hex_value (hex_digit (b % 16)) ≡ b = rw (high.value, low.value) (omega arith) in
    record {
      rest = λ left n e.
          let last = ap (λ r. string_rest r left) pair ∙ e in
          let middle = ap (λ r. string_rest r (hex_digit (b % 16) ∷ left)) escape ∙ counted 1 last (1 + n) refl in
          counted 1 (counted 1 middle (2 + n) (omega arith)) (3 + n) (omega arith);
      content = λ left. cond-true _ _ _ high.digit ∙ ap (λ v. v ∷ decode NothingPending left) value;
    }

byte_read : (b : ℕ) → b < 256 → IsRead b (escaped_byte b)
unfolding escaped_byte
byte_read b small = go (is_plain b) refl (b == 92) refl
  where
    go : (p : Bool) → is_plain b ≡ p → (q : Bool) → (b == 92) ≡ q
        → IsRead b (cond p (b ∷ []) (cond q (92 ∷ 92 ∷ []) (92 ∷ hex_digit (b / 16) ∷ hex_digit (b % 16) ∷ [])))
    go true h q g = plain_read b h
    go false h true g = let same : b ≡ 92 = eqb-true b 92 g in rw same back_read
    go false h false g = hex_read b small

-- ---- strings

quote_rest : (rest : List ℕ) → string_rest Plain (34 ∷ rest) ≡ Some 1
quote_rest rest = ap (option_map (λ n. n + 1)) (string_rest-closed rest)

bytes_rest : (text : List ℕ) → AreBytes text → (rest : List ℕ)
    → string_rest Plain (escaped_bytes text ++ (34 ∷ rest)) ≡ Some (length (escaped_bytes text) + 1)
bytes_rest [] small rest = quote_rest rest
bytes_rest (b ∷ bs) small rest =
    let more = bytes_rest bs small.1 rest in
    let count : length (escaped_byte b) + (length (escaped_bytes bs) + 1) ≡ length (escaped_byte b ++ escaped_bytes bs) + 1 =
    rw (length-append (escaped_byte b) (escaped_bytes bs)) (omega arith) in
    ap (string_rest Plain) (append_assoc (escaped_byte b) (escaped_bytes bs) (34 ∷ rest))
    ∙ (byte_read b small.0).rest (escaped_bytes bs ++ (34 ∷ rest)) (length (escaped_bytes bs) + 1) more ∙ ap Some count

bytes_content : (text : List ℕ) → AreBytes text → decode NothingPending (escaped_bytes text) ≡ text
bytes_content [] small = refl
bytes_content (b ∷ bs) small = (byte_read b small.0).content (escaped_bytes bs) ∙ ap (λ x. b ∷ x) (bytes_content bs small.1)

-- the bytes of a string after its opening quote
abbrev quoted_bytes : List ℕ → List ℕ
quoted_bytes text = escaped_bytes text ++ (34 ∷ [])

quoted_count : (text : List ℕ) → length (quoted_bytes text) ≡ length (escaped_bytes text) + 1
quoted_count text = length-append (escaped_bytes text) (34 ∷ [])

quoted_length : (text : List ℕ) → AreBytes text → (rest : List ℕ) → string_length (quoted_bytes text ++ rest) ≡ Some (length (quoted_bytes text))
quoted_length text small rest =
    ap (string_rest Plain) (append_assoc (escaped_bytes text) (34 ∷ []) rest) ∙ bytes_rest text small rest ∙ ap Some (sym (quoted_count text))

-- what stands between the quotes
body_bytes : (text : List ℕ) → AreBytes text → (n : ℕ) → n ≡ length (escaped_bytes text) → unescape (take n (quoted_bytes text)) ≡ text
body_bytes text small n count =
    ap (λ m. unescape (take m (quoted_bytes text))) count ∙ ap unescape (take-append_seam (escaped_bytes text) (34 ∷ [])) ∙ bytes_content text small

string_content : (text : List ℕ) → AreBytes text → content_of kind.StringLiteral (34 ∷ quoted_bytes text) ≡ text
string_content text small =
    let e = quoted_count text in
    body_bytes text small (suc (length (quoted_bytes text)) - 2) (omega (arith, e))

symbol_content : (text : List ℕ) → AreBytes text → content_of kind.SymbolString (64 ∷ 34 ∷ quoted_bytes text) ≡ text
symbol_content text small =
    let e = quoted_count text in
    body_bytes text small (suc (suc (length (quoted_bytes text))) - 3) (omega (arith, e))

string_prefix : (bs : List ℕ) → prefix_of 34 bs ≡ string_token kind.StringLiteral 0 (string_length bs)
unfolding prefix_of sign_prefix
string_prefix bs = refl

symbol_string_prefix : (bs : List ℕ) → prefix_of 64 (34 ∷ bs) ≡ string_token kind.SymbolString 1 (string_length bs)
unfolding prefix_of sign_prefix
symbol_string_prefix bs = refl

-- a string is read as what it holds
pub string_lexed : (text : List ℕ) → AreBytes text → Whole (Holding kind.StringLiteral text) (string_bytes text)
unfolding string_bytes
string_lexed text small = record {
  lex = λ rest location at.
      one_token 34 (quoted_bytes text) rest location at
      (string_prefix (quoted_bytes text ++ rest) ∙ ap (string_token kind.StringLiteral 0) (quoted_length text small rest)) (omega arith)
      (λ t k e. (k, ap (content_of kind.StringLiteral) e ∙ string_content text small));
}

-- a symbol that is a string
pub symbol_string_lexed : (text : List ℕ) → AreBytes text → Whole (Holding kind.SymbolString text) ((64 ∷ []) ++ string_bytes text)
unfolding string_bytes
symbol_string_lexed text small = record {
  lex = λ rest location at.
      one_token 64 (34 ∷ quoted_bytes text) rest location at
      (symbol_string_prefix (quoted_bytes text ++ rest) ∙ ap (string_token kind.SymbolString 1) (quoted_length text small rest)) (omega arith)
      (λ t k e. (k, ap (content_of kind.SymbolString) e ∙ symbol_content text small));
}
