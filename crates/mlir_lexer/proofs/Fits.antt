-- A gap and a token stand within one line of the text.
use Rattle.std.proofs.Common.{add-one, ◌≡◌, ℕ, suc, ◌+◌, ◌≤◌, Bool, true, false, cond, ◌&&◌, List, [], ◌∷◌, take, drop, length, Option, None, Some, refl, sym, ap, ◌∙◌, arith, ◌==◌}
use Rattle.std.proofs.lemmas.Bool.{eqb-true}
use Rattle.std.specs.Option.{option_map}
use Rattle.mlir_lexer.specs.Classes.{is_space, is_digit, is_hex_digit, is_name_start, is_name_byte, is_suffix_byte, is_line_byte}
use Rattle.mlir_lexer.specs.Runs.{run, begins}
use Rattle.mlir_lexer.specs.Strings.{reading_after, string_rest, string_length}
use Rattle.mlir_lexer.specs.Prefixes.{mark_of, mark_prefix, suffix_length, suffix_token, string_token, is_hex_mark, number_prefix, symbol_prefix, hash_prefix, slash_prefix, minus_prefix, sign_prefix, prefix_of}
use Rattle.mlir_lexer.specs.Flat.{IsWithinLine}
use Rattle.mlir_lexer.specs.declared.token.TokenKind.{TokenKind}
use Rattle.mlir_lexer.specs.declared.prefixes.Prefix.{Prefix}
use Rattle.mlir_lexer.specs.declared.prefixes.Prefix.TheVariants.{LineEnd, Gap, Token, Bad}
use Rattle.mlir_lexer.specs.declared.strings.Reading.{Reading}
use Rattle.mlir_lexer.specs.declared.strings.Reading.TheVariants.{Plain, Escape, HexPair, Closed, Broken}
use Rattle.mlir_lexer.proofs.StringEnds.{string_rest-broken}
use Rattle.mlir_lexer.proofs.Lines.{NoLineEnd, IsWithinLine-cons, run-within, run-NoLineEnd}

-- what stands at the beginning of `b ∷ bs` fits there
abbrev pub FitsPrefix : ℕ → List ℕ → Prefix → Type 0
FitsPrefix b bs LineEnd = b ≡ 10
FitsPrefix b bs (Gap count) = IsWithinLine count (b ∷ bs)
FitsPrefix b bs (Token kind count) = IsWithinLine count (b ∷ bs)
FitsPrefix b bs (Bad before) = Unit {0}

-- either answer of a test fits
either : (b : ℕ) (bs : List ℕ) (t : Bool) (x y : Prefix) → (t ≡ true → FitsPrefix b bs x) → (t ≡ false → FitsPrefix b bs y) → FitsPrefix b bs (cond t x y)
either b bs true x y f g = f refl
either b bs false x y f g = g refl

one_more : (more : Option ℕ) (n : ℕ) → option_map (λ k. k + 1) more ≡ Some n → (m : ℕ) × (more ≡ Some m) × (n ≡ m + 1)
one_more None n e = cc
one_more (Some m) n e = (m, refl, cc)

-- one byte of a string, and those after it
string_cons-fits : (reading : Reading) (b : ℕ) (bs : List ℕ) (n : ℕ) → reading_after reading 10 ≡ Broken
    → option_map (λ k. k + 1) (string_rest (reading_after reading b) bs) ≡ Some n
    → ((m : ℕ) → string_rest (reading_after reading b) bs ≡ Some m → (m ≤ length bs) × NoLineEnd (take m bs))
    → (n ≤ length (b ∷ bs)) × NoLineEnd (take n (b ∷ bs))
string_cons-fits reading b bs n broken e later = go (b == 10) refl
  where
    go : (t : Bool) → (b == 10) ≡ t → (n ≤ suc (length bs)) × NoLineEnd (take n (b ∷ bs))
    go true t =
        let same : reading_after reading b ≡ Broken = ap (reading_after reading) (eqb-true b 10 t) ∙ broken
        in
        let none : string_rest (reading_after reading b) bs ≡ None = ap (λ r. string_rest r bs) same ∙ string_rest-broken bs
        in
        let m = one_more (string_rest (reading_after reading b) bs) n e
        in cc (none, m.1)
    go false t =
        let m = one_more (string_rest (reading_after reading b) bs) n e
        in
        let rest = later m.0 m.1
        in
        let count : n ≡ suc m.0 = m.2 ∙ add-one m.0
        in rw count (omega (arith, rest.0), (t, rest.1))

-- a string's bytes, the closing quote included, stand within its line
string_rest-fits : (reading : Reading) (bytes : List ℕ) (n : ℕ) → string_rest reading bytes ≡ Some n → (n ≤ length bytes) × NoLineEnd (take n bytes)
string_rest-fits Closed [] n e = let z : n ≡ 0 = cc in rw z (omega arith, tt)
string_rest-fits Closed (b ∷ bs) n e = let z : n ≡ 0 = cc in rw z (omega arith, tt)
string_rest-fits Broken [] n e = cc
string_rest-fits Broken (b ∷ bs) n e = cc
string_rest-fits Plain [] n e = cc
string_rest-fits Escape [] n e = cc
string_rest-fits HexPair [] n e = cc
string_rest-fits Plain (b ∷ bs) n e = string_cons-fits Plain b bs n refl e (λ m f. string_rest-fits (reading_after Plain b) bs m f)
string_rest-fits Escape (b ∷ bs) n e = string_cons-fits Escape b bs n refl e (λ m f. string_rest-fits (reading_after Escape b) bs m f)
string_rest-fits HexPair (b ∷ bs) n e = string_cons-fits HexPair b bs n refl e (λ m f. string_rest-fits (reading_after HexPair b) bs m f)

-- a run of a class without LF after the first byte
run-fits : (test : ℕ → Bool) (b : ℕ) (bs : List ℕ) → test 10 ≡ false → (b == 10) ≡ false → IsWithinLine (run test bs + 1) (b ∷ bs)
run-fits test b bs h t = IsWithinLine-cons b bs (run test bs) (run test bs + 1) refl t (run-within test bs) (run-NoLineEnd test bs h)

suffixed-fits : (kind : TokenKind) (b : ℕ) (bs : List ℕ) → (b == 10) ≡ false → FitsPrefix b bs (suffix_token kind bs)
suffixed-fits kind b bs t = either b bs (suffix_length bs == 0) _ _ (λ z. tt) (λ n. go (begins is_digit bs))
  where
    go : (d : Bool) → IsWithinLine (cond d (run is_digit bs) (run is_suffix_byte bs) + 1) (b ∷ bs)
    go true = run-fits is_digit b bs refl t
    go false = run-fits is_suffix_byte b bs refl t

-- a string after the first byte
string-fits : (kind : TokenKind) (b : ℕ) (bs : List ℕ) (length : Option ℕ) → length ≡ string_length bs → (b == 10) ≡ false → FitsPrefix b bs (string_token kind 0 length)
string-fits kind b bs None e t = tt
string-fits kind b bs (Some n) e t =
    let fits = string_rest-fits Plain bs n (sym e) in IsWithinLine-cons b bs n (0 + 1 + n) (omega arith) t fits.0 fits.1

-- a string after the first byte and the quote that opens it
symbol_string-fits : (kind : TokenKind) (b q : ℕ) (bs : List ℕ) (length : Option ℕ) → length ≡ string_length bs → (b == 10) ≡ false → (q == 10) ≡ false
    → FitsPrefix b (q ∷ bs) (string_token kind 1 length)
symbol_string-fits kind b q bs None e t u = tt
symbol_string-fits kind b q bs (Some n) e t u =
    let fits = string_rest-fits Plain bs n (sym e)
    in IsWithinLine-cons b (q ∷ bs) (suc n) (1 + 1 + n) (omega arith) t (omega (arith, fits.0)) (u, fits.1)

-- a byte that is another one is no LF
other_byte : (b k : ℕ) → (k == 10) ≡ false → (b == k) ≡ true → (b == 10) ≡ false
other_byte b k h e = ap (λ x. x == 10) (eqb-true b k e) ∙ h

symbol-fits : (b : ℕ) (bs : List ℕ) → (b == 10) ≡ false → FitsPrefix b bs (symbol_prefix bs)
symbol-fits b [] t = tt
symbol-fits b (q ∷ bs) t =
    either b (q ∷ bs) (q == 34) _ _ (λ e. symbol_string-fits _ b q bs (string_length bs) refl t (other_byte q 34 refl e)) (λ e. suffixed-fits _ b (q ∷ bs) t)

hash-fits : (b : ℕ) (bs : List ℕ) → (b == 10) ≡ false → FitsPrefix b bs (hash_prefix bs)
hash-fits b bs t = either b bs (begins is_digit bs) _ _ (λ e. suffixed-fits _ b bs t) (λ e. suffixed-fits _ b bs t)

slash-fits : (b : ℕ) (bs : List ℕ) → (b == 10) ≡ false → FitsPrefix b bs (slash_prefix bs)
slash-fits b bs t = either b bs (begins (λ c. c == 47) bs) _ _ (λ e. run-fits is_line_byte b bs refl t) (λ e. tt)

one_byte-fits : (b : ℕ) (bs : List ℕ) → (b == 10) ≡ false → IsWithinLine 1 (b ∷ bs)
one_byte-fits b bs t = IsWithinLine-cons b bs 0 1 refl t (omega arith) tt

minus-fits : (b : ℕ) (bs : List ℕ) → (b == 10) ≡ false → FitsPrefix b bs (minus_prefix bs)
minus-fits b [] t = one_byte-fits b [] t
minus-fits b (c ∷ bs) t =
    either b (c ∷ bs) (c == 62) _ _ (λ e. IsWithinLine-cons b (c ∷ bs) 1 2 refl t (omega arith) (other_byte c 62 refl e, tt)) (λ e. one_byte-fits b (c ∷ bs) t)

mark-fits : (b : ℕ) (bs : List ℕ) (mark : Option TokenKind) → (b == 10) ≡ false → FitsPrefix b bs (mark_prefix mark)
mark-fits b bs None t = tt
mark-fits b bs (Some kind) t = one_byte-fits b bs t

hex-fits : (b : ℕ) (bs : List ℕ) → (b == 10) ≡ false → is_hex_mark bs ≡ true → IsWithinLine (run is_hex_digit (drop 1 bs) + 2) (b ∷ bs)
hex-fits b [] t h = cc
hex-fits b (x ∷ bs) t h =
    let lead : (x == 120) ≡ true = and_left (x == 120) (begins is_hex_digit bs) h
    in
    IsWithinLine-cons b (x ∷ bs) (suc (run is_hex_digit bs)) (run is_hex_digit bs + 2) (omega arith) t (omega (arith, run-within is_hex_digit bs))
    (other_byte x 120 refl lead, run-NoLineEnd is_hex_digit bs refl)
  where
    and_left : (p q : Bool) → (p && q) ≡ true → p ≡ true
    and_left true q e = refl
    and_left false q e = e

number-fits : (b : ℕ) (bs : List ℕ) → (b == 10) ≡ false → FitsPrefix b bs (number_prefix b bs)
number-fits b bs t =
    either b bs ((b == 48) && is_hex_mark bs) _ _ (λ e. hex-fits b bs t (and_right (b == 48) (is_hex_mark bs) e)) (λ e. run-fits is_digit b bs refl t)
  where
    and_right : (p q : Bool) → (p && q) ≡ true → q ≡ true
    and_right true q e = e
    and_right false q e = cc

sign-fits : (b : ℕ) (bs : List ℕ) → (b == 10) ≡ false → FitsPrefix b bs (sign_prefix b bs)
unfolding sign_prefix
sign-fits b bs t =
    either b bs (b == 37) _ _ (λ e. suffixed-fits _ b bs t)
    (λ e. either b bs (b == 64) _ _ (λ e. symbol-fits b bs t)
    (λ e. either b bs (b == 35) _ _ (λ e. hash-fits b bs t)
    (λ e. either b bs (b == 33) _ _ (λ e. suffixed-fits _ b bs t)
    (λ e. either b bs (b == 34) _ _ (λ e. string-fits _ b bs (string_length bs) refl t)
    (λ e. either b bs (b == 45) _ _ (λ e. minus-fits b bs t)
    (λ e. either b bs (b == 47) _ _ (λ e. slash-fits b bs t) (λ e. mark-fits b bs (mark_of b) t)))))))

-- what the bytes begin with fits them
pub prefix_of-fits : (b : ℕ) (bs : List ℕ) → FitsPrefix b bs (prefix_of b bs)
unfolding prefix_of
prefix_of-fits b bs =
    either b bs (b == 10) _ _ (λ e. eqb-true b 10 e)
    (λ t. either b bs (is_space b) _ _ (λ e. run-fits is_space b bs refl t)
    (λ e. either b bs (is_name_start b) _ _ (λ e. run-fits is_name_byte b bs refl t)
    (λ e. either b bs (is_digit b) _ _ (λ e. number-fits b bs t) (λ e. sign-fits b bs t))))
