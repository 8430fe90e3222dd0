-- The parity of a word and the ones of its number.
use Rattle.std.proofs.Common.{◌≡◌, refl, sym, ap, ◌∙◌, ℕ, zero, suc, ◌+◌, ◌%◌, ◌<◌, ◌==◌, Bool, true, false, not, [], ◌∷◌, ◌++◌, length, arith, mod-lt, zero-add}
use Rattle.std.proofs.Math.Nat.{add-mod-mod}
use Rattle.std.specs.Int.Count.{ones as count_ones, ones_in, ones_cat}
use Rattle.bits_core.specs.Word.{Word, number, xor, parity}
use Rattle.bits_core.proofs.Numbers.{number_below}

-- one more turns the parity
odd-suc : (n : ℕ) → ((1 + n) % 2 == 1) ≡ not (n % 2 == 1)
odd-suc n =
    ap (λ (m : ℕ). m == 1) (sym (add-mod-mod 1 n 2)) ∙ by_rest (n % 2) (mod-lt n (omega arith))
  where
    by_rest : (m : ℕ) → m < 2 → ((1 + m) % 2 == 1) ≡ not (m == 1)
    by_rest zero h = refl
    by_rest (suc zero) h = refl
    by_rest (suc (suc m)) h = absurd (omega arith)

-- the parity says whether the number has an odd count of ones
pub parity-count_ones : (x : Word) → (count_ones (number x) % 2 == 1) ≡ parity x
unfolding count_ones ones_in
parity-count_ones [] = refl
parity-count_ones (true ∷ x) =
    ap (λ (m : ℕ). m % 2 == 1) (ones_cat (length x) 1 (number x) (number_below x))
    ∙ odd-suc (count_ones (number x)) ∙ ap not (parity-count_ones x)
parity-count_ones (false ∷ x) =
    ap (λ (m : ℕ). m % 2 == 1) (ones_cat (length x) 0 (number x) (number_below x) ∙ zero-add (count_ones (number x)))
    ∙ parity-count_ones x

pub parity-append : (x y : Word) → parity (x ++ y) ≡ xor (parity x) (parity y)
parity-append [] y = refl
parity-append (true ∷ x) y = ap not (parity-append x y) ∙ not-xor (parity x) (parity y)
  where
    not-xor : (a b : Bool) → not (xor a b) ≡ xor (not a) b
    not-xor true true = refl
    not-xor true false = refl
    not-xor false b = refl
parity-append (false ∷ x) y = parity-append x y
