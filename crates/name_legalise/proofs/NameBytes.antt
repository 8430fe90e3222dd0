-- The bytes of legal names.
use Rattle.std.proofs.Common.{◌≡◌, ℕ, ◌<◌, ◌^◌, Bool, true, false, cond, ◌||◌, ◌==◌, List, [], ◌∷◌, map, length, decimal, IsTrue, refl, ap, ◌∙◌}
use Rattle.hw_model.specs.Types.{Name}
use Rattle.verilog_model.specs.Tokens.{is_name_start, is_name_byte, is_digit}
use Rattle.verilog_model.specs.Numerals.{all_bytes, is_nonempty}
use Rattle.verilog_model.specs.Checks.{starts_name}
use Rattle.verilog_model.proofs.Numerals.{and_intro, and_first, and_second, all_bytes-append, all_bytes_weaker, is_decimal-decimal}
use Rattle.fresh_names.specs.Fresh.{with_suffix, free_name}
use Rattle.name_legalise.specs.Legal.{name_byte, clean}
use Rattle.name_legalise.proofs.Suffixes.{name_within}

pub cleaned_stays : (w : Name) → starts_name (map name_byte w) ≡ true → clean w ≡ map name_byte w
unfolding clean
cleaned_stays w e = ap (λ b. cond b (map name_byte w) (95 ∷ map name_byte w)) e

pub cleaned_fronted : (w : Name) → starts_name (map name_byte w) ≡ false → clean w ≡ 95 ∷ map name_byte w
unfolding clean
cleaned_fronted w e = ap (λ b. cond b (map name_byte w) (95 ∷ map name_byte w)) e

-- ---- a name whose bytes are cleaned

name_byte_is : (b : ℕ) → IsTrue (is_name_byte (name_byte b))
name_byte_is b = go (is_name_byte b) refl where
  go : (t : Bool) → is_name_byte b ≡ t → IsTrue (is_name_byte (cond t b 95))
  go true e = e
  go false e = refl

mapped_bytes : (w : Name) → IsTrue (all_bytes is_name_byte (map name_byte w))
mapped_bytes [] = refl
mapped_bytes (b ∷ w) = and_intro (is_name_byte (name_byte b)) (all_bytes is_name_byte (map name_byte w)) (name_byte_is b) (mapped_bytes w)

pub cleaned_bytes : (w : Name) → IsTrue (all_bytes is_name_byte (clean w))
unfolding clean
cleaned_bytes w = go (starts_name (map name_byte w)) where
  go : (t : Bool) → IsTrue (all_bytes is_name_byte (cond t (map name_byte w) (95 ∷ map name_byte w)))
  go true = mapped_bytes w
  go false = mapped_bytes w

pub cleaned_starts : (w : Name) → IsTrue (starts_name (clean w))
unfolding clean
cleaned_starts w = go (starts_name (map name_byte w)) refl where
  go : (t : Bool) → starts_name (map name_byte w) ≡ t → IsTrue (starts_name (cond t (map name_byte w) (95 ∷ map name_byte w)))
  go true e = e
  go false e = refl

same_byte : (b : ℕ) → IsTrue (is_name_byte b) → name_byte b ≡ b
same_byte b h = ap (λ t. cond t b 95) h

mapped_same : (w : Name) → IsTrue (all_bytes is_name_byte w) → map name_byte w ≡ w
mapped_same [] h = refl
mapped_same (b ∷ w) h =
    ap (λ x. x ∷ map name_byte w) (same_byte b (and_first (is_name_byte b) (all_bytes is_name_byte w) h))
    ∙ ap (λ l. b ∷ l) (mapped_same w (and_second (is_name_byte b) (all_bytes is_name_byte w) h))

-- what has the bytes of a name, and begins as one once it is cleaned, stays
pub clean_same : (w : Name) → starts_name (map name_byte w) ≡ true → IsTrue (all_bytes is_name_byte w) → clean w ≡ w
clean_same w s h = cleaned_stays w s ∙ mapped_same w h

-- what has the bytes of a name, and begins as one, stays
pub cleaned_same : (w : Name) → IsTrue (starts_name w) → IsTrue (all_bytes is_name_byte w) → clean w ≡ w
cleaned_same w s h = let same = mapped_same w h in cleaned_stays w (ap starts_name same ∙ s) ∙ same

-- ---- a suffixed name

starts_suffixed : (w : Name) (k : ℕ) → IsTrue (starts_name w) → IsTrue (starts_name (with_suffix w k))
unfolding with_suffix
starts_suffixed [] k h = cc
starts_suffixed (b ∷ w) k h = h

digit_is_name_byte : (b : ℕ) → IsTrue (is_digit b) → IsTrue (is_name_byte b)
digit_is_name_byte b h = go (is_name_start b) (is_digit b) (b == 36) h where
  go : (s d m : Bool) → IsTrue d → IsTrue (s || (d || m))
  go true d m h = refl
  go false true m h = refl
  go false false m h = cc

bytes_suffixed : (w : Name) (k : ℕ) → k < 2 ^ 64 → IsTrue (all_bytes is_name_byte w) → IsTrue (all_bytes is_name_byte (with_suffix w k))
unfolding with_suffix
bytes_suffixed w k small h =
    let digits = and_second (is_nonempty (decimal k)) (all_bytes is_digit (decimal k)) (is_decimal-decimal k small) in
    all_bytes-append is_name_byte w (95 ∷ decimal k) h
    (and_intro (is_name_byte 95) (all_bytes is_name_byte (decimal k)) refl (all_bytes_weaker is_digit is_name_byte digit_is_name_byte (decimal k) digits))

-- ---- the free name of a cleaned one

pub bytes_named : (ts : List Name) (w : Name) → length ts < 2 ^ 64 → IsTrue (all_bytes is_name_byte (free_name ts (clean w)))
bytes_named ts w small =
    name_within ts (clean w) (λ n. IsTrue (all_bytes is_name_byte n)) small (cleaned_bytes w) (λ k few. bytes_suffixed (clean w) k few (cleaned_bytes w))

pub starts_named : (ts : List Name) (w : Name) → length ts < 2 ^ 64 → IsTrue (starts_name (free_name ts (clean w)))
starts_named ts w small =
    name_within ts (clean w) (λ n. IsTrue (starts_name n)) small (cleaned_starts w) (λ k few. starts_suffixed (clean w) k (cleaned_starts w))
