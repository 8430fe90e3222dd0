-- Bytes without line feeds: numbers, strings, names.
use Rattle.std.proofs.Common.{◌≡◌, ℕ, zero, suc, ◌+◌, ◌-◌, ◌/◌, ◌%◌, ◌<◌, Bool, true, false, cond, ◌&&◌, ◌==◌, not, nat_lt, List, [], ◌∷◌, ◌++◌, length, map, decimal, refl, ap, ◌∙◌, arith}
use Rattle.std.specs.Prelude.{codes, ℤ, pos, negsuc}
use Rattle.std.specs.Fmt.{digits, digits_onto, digit_glyph}
use Rattle.std.proofs.lemmas.Bool.{eqb-true, and_parts}
use Rattle.hw_model.specs.Types.{Name}
use Rattle.mlir_lexer.specs.Classes.{is_digit, is_name_start, is_name_byte, is_suffix_byte}
use Rattle.mlir_lexer.specs.Runs.{run}
use Rattle.printing_laws.specs.Numbers.{count_bytes, integer_bytes, truth_bytes}
use Rattle.mlir_printer.specs.Strings.{is_plain, hex_digit, escaped_byte, escaped_bytes, string_bytes, is_bare, name_bytes, symbol_bytes, stands, suffix_byte, standing}
use Rattle.mlir_printer.specs.Commas.{comma_bytes, items_from, commas}
use Rattle.mlir_printer.specs.Lines.{is_quiet}
use Rattle.mlir_printer.proofs.lexed.LexedStrings.{unlike_byte}

-- bytes without a line feed
pub record Quiet (bytes : List ℕ) : Type 0 where
  pub is : is_quiet bytes ≡ true

-- ---- joining

joined_quiet : (xs ys : List ℕ) → is_quiet xs ≡ true → is_quiet ys ≡ true → is_quiet (xs ++ ys) ≡ true
joined_quiet [] ys h g = g
joined_quiet (b ∷ bs) ys h g = go (not (b == 10)) h (λ e. joined_quiet bs ys e g) where
  go : (t : Bool) → (t && is_quiet bs) ≡ true → (is_quiet bs ≡ true → is_quiet (bs ++ ys) ≡ true) → (t && is_quiet (bs ++ ys)) ≡ true
  go true e more = more e
  go false e more = e

pub both : {xs ys : List ℕ} → Quiet xs → Quiet ys → Quiet (xs ++ ys)
both {xs} {ys} h g = record { is = joined_quiet xs ys h.is g.is }

-- a word that is known, before others
pub after : (xs : List ℕ) → is_quiet xs ≡ true → {ys : List ℕ} → Quiet ys → Quiet (xs ++ ys)
after xs h {ys} g = record { is = joined_quiet xs ys h g.is }

pub word : (xs : List ℕ) → is_quiet xs ≡ true → Quiet xs
word xs h = record { is = h }

pub none : Quiet []
none = record { is = refl }

-- one of two
pub either : (b : Bool) {xs ys : List ℕ} → Quiet xs → Quiet ys → Quiet (cond b xs ys)
either true h g = h
either false h g = g

-- a byte above the line feed, and others
over : (b : ℕ) → 10 < b → (b == 10) ≡ false
over b big = go (b == 10) refl where
  go : (t : Bool) → (b == 10) ≡ t → t ≡ false
  go false e = refl
  go true e = let same : b ≡ 10 = eqb-true b 10 e in absurd (omega (arith, same, big))

byte_apart : (b : ℕ) (bs : List ℕ) → (b == 10) ≡ false → Quiet bs → Quiet (b ∷ bs)
byte_apart b bs apart h = record { is = ap (λ t. not t && is_quiet bs) apart ∙ h.is }

pub byte_then : (b : ℕ) (bs : List ℕ) → 10 < b → Quiet bs → Quiet (b ∷ bs)
byte_then b bs big h = byte_apart b bs (over b big) h

-- ---- numbers

glyph_over : (d : ℕ) → 10 < digit_glyph false d
glyph_over d = go (nat_lt d 10) where
  go : (t : Bool) → 10 < cond t (48 + d) (87 + d)
  go true = omega arith
  go false = omega arith

onto_quiet : (k n : ℕ) (acc : List ℕ) → Quiet acc → Quiet (digits_onto k 10 false n acc)
onto_quiet zero n acc h = h
onto_quiet (suc k) n acc h =
    let more : Quiet (digit_glyph false (n % 10) ∷ acc) = byte_then (digit_glyph false (n % 10)) acc (glyph_over (n % 10)) h in
    either (n / 10 == 0) more (onto_quiet k (n / 10) (digit_glyph false (n % 10) ∷ acc) more)

pub decimal_quiet : (n : ℕ) → Quiet (decimal n)
unfolding digits
decimal_quiet n = onto_quiet 64 n [] none

pub count_quiet : (n : ℕ) → Quiet (count_bytes n)
unfolding count_bytes
count_quiet n = decimal_quiet n

pub integer_quiet : (z : ℤ) → Quiet (integer_bytes z)
unfolding integer_bytes
integer_quiet (pos n) = decimal_quiet n
integer_quiet (negsuc n) = after (codes "-") refl (either (n == 340282366920938463463374607431768211455) (word (codes "340282366920938463463374607431768211456") refl) (decimal_quiet (n + 1)))

pub truth_quiet : (b : Bool) → Quiet (truth_bytes b)
truth_quiet b = either b (word (codes "true") refl) (word (codes "false") refl)

-- ---- strings

hex_over : (n : ℕ) → 10 < hex_digit n
hex_over n = go (nat_lt n 10) where
  go : (t : Bool) → 10 < cond t (48 + n) (55 + n)
  go true = omega arith
  go false = omega arith

escaped_quiet : (b : ℕ) → Quiet (escaped_byte b)
unfolding escaped_byte
escaped_quiet b = go (is_plain b) refl where
  go : (t : Bool) → is_plain b ≡ t → Quiet (cond t (b ∷ []) (cond (b == 92) (92 ∷ 92 ∷ []) (92 ∷ hex_digit (b / 16) ∷ hex_digit (b % 16) ∷ [])))
  go true e = byte_apart b [] (unlike_byte is_plain b 10 refl e) none
  go false e =
      either (b == 92) (word (92 ∷ 92 ∷ []) refl)
      (byte_then 92 (hex_digit (b / 16) ∷ hex_digit (b % 16) ∷ []) (omega arith)
      (byte_then (hex_digit (b / 16)) (hex_digit (b % 16) ∷ []) (hex_over (b / 16)) (byte_then (hex_digit (b % 16)) [] (hex_over (b % 16)) none)))

all_escaped : (bs : List ℕ) → Quiet (escaped_bytes bs)
all_escaped [] = none
all_escaped (b ∷ bs) = both (escaped_quiet b) (all_escaped bs)

pub string_quiet : (text : List ℕ) → Quiet (string_bytes text)
unfolding string_bytes
string_quiet text = after (34 ∷ []) refl (both (all_escaped text) (word (34 ∷ []) refl))

-- ---- names

-- bytes that meet a test which no line feed meets
run_quiet : (test : ℕ → Bool) → test 10 ≡ false → (bs : List ℕ) → run test bs ≡ length bs → Quiet bs
run_quiet test none_ten [] h = none
run_quiet test none_ten (b ∷ bs) h = go (test b) refl h (λ e. run_quiet test none_ten bs e) where
  go : (t : Bool) → test b ≡ t → cond t (run test bs + 1) 0 ≡ suc (length bs) → (run test bs ≡ length bs → Quiet bs) → Quiet (b ∷ bs)
  go false e k more = absurd (omega (arith, k))
  go true e k more = byte_apart b bs (unlike_byte test b 10 none_ten e) (more (omega (arith, k)))

bare_quiet : (name : Name) → is_bare name ≡ true → Quiet name
bare_quiet [] h = none
bare_quiet (b ∷ bs) h =
    let (first, all) = and_parts (is_name_start b) _ h in
    byte_apart b bs (unlike_byte is_name_start b 10 refl first) (run_quiet is_name_byte refl bs (eqb-true (run is_name_byte bs) (length bs) all))

pub name_quiet : (name : Name) → Quiet (name_bytes name)
unfolding name_bytes
name_quiet name = go (is_bare name) refl where
  go : (t : Bool) → is_bare name ≡ t → Quiet (cond t name (string_bytes name))
  go true e = bare_quiet name e
  go false e = string_quiet name

pub symbol_quiet : (name : Name) → Quiet (symbol_bytes name)
unfolding symbol_bytes
symbol_quiet name = after (64 ∷ []) refl (name_quiet name)

suffixes_quiet : (bs : List ℕ) → Quiet (map suffix_byte bs)
suffixes_quiet [] = none
suffixes_quiet (b ∷ bs) = go (is_suffix_byte b) refl (suffixes_quiet bs) where
  go : (t : Bool) → is_suffix_byte b ≡ t → Quiet (map suffix_byte bs) → Quiet (cond t b 95 ∷ map suffix_byte bs)
  go true e rest = byte_apart b (map suffix_byte bs) (unlike_byte is_suffix_byte b 10 refl e) rest
  go false e rest = byte_then 95 (map suffix_byte bs) (omega arith) rest

pub standing_quiet : (name : Name) → Quiet (standing name)
unfolding standing
standing_quiet name = go (stands name) refl where
  whole : (n : Name) → stands n ≡ true → Quiet n
  whole [] h = none
  whole (b ∷ bs) h = let (first, all) = and_parts (not (is_digit b)) _ h in run_quiet is_suffix_byte refl (b ∷ bs) (eqb-true (run is_suffix_byte (b ∷ bs)) (length (b ∷ bs)) all)

  go : (t : Bool) → stands name ≡ t → Quiet (cond t name (95 ∷ map suffix_byte name))
  go true e = whole name e
  go false e = byte_then 95 (map suffix_byte name) (omega arith) (suffixes_quiet name)

-- ---- lists with commas

pub comma_quiet : (i : ℕ) → Quiet (comma_bytes i)
unfolding comma_bytes
comma_quiet i = either (i == 0) none (word (codes ", ") refl)

-- what a fact has for each item
abbrev pub Every : {A : Type 0} → (A → Type 0) → List A → Type 0
Every P [] = Unit {0}
Every P (x ∷ xs) = P x × Every P xs

items_quiet : {A : Type 0} (bytes : A → List ℕ) (i : ℕ) (xs : List A) → Every (λ x. Quiet (bytes x)) xs → Quiet (items_from bytes i xs)
items_quiet bytes i [] h = none
items_quiet bytes i (x ∷ xs) h = both (comma_quiet i) (both h.0 (items_quiet bytes (i + 1) xs h.1))

pub commas_quiet : {A : Type 0} (bytes : A → List ℕ) (xs : List A) → Every (λ x. Quiet (bytes x)) xs → Quiet (commas bytes xs)
commas_quiet bytes xs h = items_quiet bytes 0 xs h

pub every : {A : Type 0} {P : A → Type 0} → ((x : A) → P x) → (xs : List A) → Every P xs
every f [] = tt
every f (x ∷ xs) = (f x, every f xs)
