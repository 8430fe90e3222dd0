-- Legal names and the names of bits stand in one line.
use Rattle.std.proofs.Common.{◌≡◌, refl, sym, ap, ◌∙◌, ℕ, zero, suc, ◌+◌, ◌/◌, ◌%◌, Bool, true, false, not, if◌then◌else◌, ◌&&◌, ◌==◌, nat_lt, cond, List, [], ◌∷◌, ◌++◌, map, length, drop, decimal, arith}
use Rattle.std.specs.List.{list_all}
use Rattle.std.specs.Fmt.{digits, digits_onto, digit_glyph}
use Rattle.std.proofs.lemmas.Bool.{ne_eqb}
use Rattle.std.proofs.lemmas.List.Folds.{list_all-append}
use Rattle.hw_model.specs.Types.{Name}
use Rattle.fresh_names.specs.Fresh.{is_taken, with_suffix, free_from, free_name}
use Rattle.verilog_model.specs.Tokens.{is_name_byte}
use Rattle.verilog_model.specs.Checks.{starts_name}
use Rattle.verilog_model.specs.Reserved.{reserved_words}
use Rattle.name_legalise.specs.Legal.{name_byte, clean, legal_name, legal_after, legal}
use Rattle.aiger_circuits.specs.CircuitTexts.{IsInLine, AreInLines}
use Rattle.aiger_circuits.proofs.WrittenLines.{lines_joined}
use Rattle.aiger_export.specs.BitNames.{bit_name, bit_names, word_bits}

-- a byte is no end of a line
abbrev is_other : ℕ → Bool
is_other b = not (b == 10)

both_true : (a b : Bool) → a ≡ true → b ≡ true → (a && b) ≡ true
both_true a b first second = ap (λ c. c && b) first ∙ second

-- ---- parts

joined : (x y : List ℕ) → IsInLine x → IsInLine y → IsInLine (x ++ y)
joined x y first second = list_all-append is_other x y ∙ both_true (list_all is_other x) (list_all is_other y) first second

other_byte : (b : ℕ) → (b ≡ 10 → ⊥) → is_other b ≡ true
other_byte b differs = ap not (ne_eqb b 10 differs)

-- the glyph of a digit
glyph_other : (n : ℕ) → is_other (digit_glyph false n) ≡ true
glyph_other n = go (nat_lt n 10)
  where
    go : (b : Bool) → is_other (if b then 48 + n else 87 + n) ≡ true
    go true = other_byte (48 + n) (λ same. omega (arith, same))
    go false = other_byte (87 + n) (λ same. omega (arith, same))

onto_in_line : (k n : ℕ) (more : List ℕ) → IsInLine more → IsInLine (digits_onto k 10 false n more)
onto_in_line zero n more within = within
onto_in_line (suc k) n more within =
    go (n / 10 == 0) (both_true (is_other (digit_glyph false (n % 10))) (list_all is_other more) (glyph_other (n % 10)) within) (λ rest. onto_in_line k (n / 10) (digit_glyph false (n % 10) ∷ more) rest)
  where
    go : (b : Bool) → IsInLine (digit_glyph false (n % 10) ∷ more) → (IsInLine (digit_glyph false (n % 10) ∷ more) → IsInLine (digits_onto k 10 false (n / 10) (digit_glyph false (n % 10) ∷ more)))
        → IsInLine (if b then digit_glyph false (n % 10) ∷ more else digits_onto k 10 false (n / 10) (digit_glyph false (n % 10) ∷ more))
    go true here rest = here
    go false here rest = rest here

number_in_line : (n : ℕ) → IsInLine (decimal n)
unfolding digits
number_in_line n = onto_in_line 64 n [] refl

-- ---- legal names

name_byte_other : (b : ℕ) → is_other (name_byte b) ≡ true
name_byte_other b = go (is_name_byte b) refl
  where
    go : (t : Bool) → is_name_byte b ≡ t → is_other (cond t b 95) ≡ true
    go true is = other_byte b (λ same. let clash : true ≡ false = sym is ∙ ap is_name_byte same in let never : ⊥ = cc in never)
    go false is = refl

bytes_in_line : (w : Name) → IsInLine (map name_byte w)
bytes_in_line [] = refl
bytes_in_line (b ∷ w) = both_true (is_other (name_byte b)) (list_all is_other (map name_byte w)) (name_byte_other b) (bytes_in_line w)

clean_in_line : (w : Name) → IsInLine (clean w)
unfolding clean
clean_in_line w = go (starts_name (map name_byte w)) (bytes_in_line w)
  where
    go : (b : Bool) → IsInLine (map name_byte w) → IsInLine (cond b (map name_byte w) (95 ∷ map name_byte w))
    go true within = within
    go false within = within

suffix_in_line : (w : Name) (k : ℕ) → IsInLine w → IsInLine (with_suffix w k)
unfolding with_suffix
suffix_in_line w k within = joined w (95 ∷ decimal k) within (number_in_line k)

from_in_line : (taken : List Name) (w : Name) (n k : ℕ) → IsInLine w → IsInLine (free_from taken w n k)
from_in_line taken w zero k within = suffix_in_line w k within
from_in_line taken w (suc n) k within = go (is_taken taken (with_suffix w k)) (from_in_line taken w n (k + 1) within) (suffix_in_line w k within)
  where
    go : (b : Bool) → IsInLine (free_from taken w n (k + 1)) → IsInLine (with_suffix w k) → IsInLine (cond b (free_from taken w n (k + 1)) (with_suffix w k))
    go true later here = later
    go false later here = here

free_in_line : (taken : List Name) (w : Name) → IsInLine w → IsInLine (free_name taken w)
unfolding free_name
free_in_line taken w within = go (is_taken taken w) (from_in_line taken w (length taken) 0 within)
  where
    go : (b : Bool) → IsInLine (free_from taken w (length taken) 0) → IsInLine (cond b (free_from taken w (length taken) 0) w)
    go true later = later
    go false later = within

legal_in_lines : (taken ws : List Name) → AreInLines (legal_after taken ws)
legal_in_lines taken [] = tt
legal_in_lines taken (w ∷ ws) = (free_in_line (reserved_words ++ taken) (clean w) (clean_in_line w), legal_in_lines (taken ++ legal_name taken w ∷ []) ws)

-- ---- names of bits

bit_in_line : (name : Name) (k : ℕ) → IsInLine name → IsInLine (bit_name name k)
unfolding bit_name
bit_in_line name k within = joined name (91 ∷ decimal k ++ 93 ∷ []) within (joined (decimal k) (93 ∷ []) (number_in_line k) refl)

bits_in_lines : (name : Name) (w : ℕ) → IsInLine name → AreInLines (bit_names name w)
bits_in_lines name zero within = tt
bits_in_lines name (suc k) within = (bit_in_line name k within, bits_in_lines name k within)

words_in_lines : (names : List Name) (ws : List ℕ) → AreInLines names → AreInLines (word_bits names ws)
words_in_lines [] ws within = tt
words_in_lines (n ∷ ns) [] within = tt
words_in_lines (n ∷ ns) (w ∷ ws) within = lines_joined (bit_names n w) (word_bits ns ws) (bits_in_lines n w within.0) (words_in_lines ns ws within.1)

dropped_in_lines : (k : ℕ) (names : List Name) → AreInLines names → AreInLines (drop k names)
dropped_in_lines zero names within = within
dropped_in_lines (suc k) [] within = tt
dropped_in_lines (suc k) (n ∷ ns) within = dropped_in_lines k ns within.1

pub legal_bits_in_lines : (wanted : List Name) (ws : List ℕ) → AreInLines (word_bits (legal wanted) ws)
legal_bits_in_lines wanted ws = words_in_lines (legal wanted) ws (legal_in_lines [] wanted)

pub later_bits_in_lines : (k : ℕ) (wanted : List Name) (ws : List ℕ) → AreInLines (word_bits (drop k (legal wanted)) ws)
later_bits_in_lines k wanted ws = words_in_lines (drop k (legal wanted)) ws (dropped_in_lines k (legal wanted) (legal_in_lines [] wanted))
