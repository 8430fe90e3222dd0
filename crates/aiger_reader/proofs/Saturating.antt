-- Numbers that are told up to 2^32.
use Rattle.std.proofs.Common.{◌≡◌, ℕ, ◌+◌, ◌-◌, ◌*◌, ◌≤◌, ◌<◌, ◌^◌, min, Bool, true, false, cond, List, [], ◌∷◌, refl, sym, ap, ◌∙◌, arith}
use Rattle.std.specs.Prelude.{Option, Some, None, option_map}
use Rattle.aiger_laws.specs.Fields.{is_digit, with_digit, number_from}
use Rattle.aiger_reader.specs.Saturated.{saturated}

-- a digit behind a saturated number
pub digit_saturated : (n b : ℕ) → saturated (with_digit (saturated n) b) ≡ saturated (with_digit n b)
digit_saturated n b = omega arith

-- digits behind a saturated number
pub from_saturated : (bs : List ℕ) (n : ℕ) → option_map saturated (number_from (saturated n) bs) ≡ option_map saturated (number_from n bs)
from_saturated [] n = ap Some (omega arith)
from_saturated (b ∷ bs) n =
    go (from_saturated bs (with_digit (saturated n) b)) (ap (λ (k : ℕ). option_map saturated (number_from k bs)) (digit_saturated n b)) (from_saturated bs (with_digit n b)) (is_digit b)
  where
    go : option_map saturated (number_from (saturated (with_digit (saturated n) b)) bs) ≡ option_map saturated (number_from (with_digit (saturated n) b) bs)
        → option_map saturated (number_from (saturated (with_digit (saturated n) b)) bs) ≡ option_map saturated (number_from (saturated (with_digit n b)) bs)
        → option_map saturated (number_from (saturated (with_digit n b)) bs) ≡ option_map saturated (number_from (with_digit n b) bs)
        → (t : Bool) → option_map saturated (cond t (number_from (with_digit (saturated n) b) bs) None) ≡ option_map saturated (cond t (number_from (with_digit n b) bs) None)
    go first second third true = sym first ∙ second ∙ third
    go first second third false = refl

-- one more digit is taken
pub digit_taken : (value b : ℕ) (bs : List ℕ) → is_digit b ≡ true
    → option_map saturated (number_from (saturated (with_digit value b)) bs) ≡ option_map saturated (number_from value (b ∷ bs))
digit_taken value b bs digit =
    from_saturated bs (with_digit value b) ∙ sym (ap (λ (t : Bool). option_map saturated (cond t (number_from (with_digit value b) bs) None)) digit)
