-- Words that are put together from the prefix, a piece at a time.
use Rattle.std.proofs.Common.{◌≡◌, ℕ, zero, suc, ◌+◌, ◌-◌, ◌/◌, ◌%◌, ◌^◌, ◌==◌, ◌<◌, cond, List, [], ◌∷◌, ◌++◌, refl, ap, sym, ◌∙◌, arith, append_assoc, append-nil}
use Rattle.bits_core.specs.Word.{Word, bits}
use Rattle.hw_model.specs.Types.{HwType}
use Rattle.hw_model.specs.Value.{element, elements_from, injected_below}

-- a piece more of a word that is built from the prefix
pub piece_more : (part piece rest new whole : Word) → part ++ (piece ++ rest) ≡ whole → new ≡ part ++ piece → new ++ rest ≡ whole
piece_more part piece rest new whole before step = ap (λ z. z ++ rest) step ∙ append_assoc part piece rest ∙ before

-- the low bits of a number, the highest of them first
pub bits_top : (w n : ℕ) → 0 < w → bits w n ≡ (n / 2 ^ (w - 1) % 2 == 1) ∷ bits (w - 1) n
bits_top zero n positive = absurd (omega arith)
bits_top (suc w) n positive = let e : suc w - 1 ≡ w = omega arith in rw e refl

-- the elements below n, the highest of them first
pub injected_top : (n : ℕ) (t : HwType) (a : Word) (i : ℕ) (v : Word) → 0 < n
    → injected_below n t a i v ≡ cond (n - 1 == i) v (element t a (n - 1)) ++ injected_below (n - 1) t a i v
injected_top zero t a i v positive = absurd (omega arith)
injected_top (suc n) t a i v positive = let e : suc n - 1 ≡ n = omega arith in rw e refl

-- the elements from one on, the highest of them first
pub elements_top : (n : ℕ) (t : HwType) (a : Word) (i : ℕ) → 0 < n
    → elements_from t a i n ≡ element t a (i + (n - 1)) ++ elements_from t a i (n - 1)
elements_top zero t a i positive = absurd (omega arith)
elements_top (suc n) t a i positive = let e : suc n - 1 ≡ n = omega arith in rw e refl

-- where nothing is left the pieces are the whole
pub piece_last : {A : Type 0} (part rest whole : List A) → rest ≡ [] → part ++ rest ≡ whole → part ≡ whole
piece_last part rest whole none all = sym (ap (λ z. part ++ z) none ∙ append-nil part) ∙ all
