-- The number of a word that is read bit by bit.
use Rattle.std.proofs.Common.{◌≡◌, ℕ, ◌+◌, ◌*◌, ◌^◌, ◌<◌, ◌≤◌, Bool, true, false, [], ◌∷◌, ◌++◌, take, length, get_or, ap, ◌∙◌, arith, length-take, min}
use Rattle.std.proofs.Math.Nat.{pow-le-pow_right}
use Rattle.std.proofs.lemmas.List.{take_more}
use Rattle.bits_core.specs.Word.{Word, number, bit}
use Rattle.bits_core.proofs.Numbers.{number-append, number_below}

number_push : (w : Word) (b : Bool) → number (w ++ b ∷ []) ≡ number w * 2 + bit b
number_push w true = let e : number (w ++ true ∷ []) ≡ number w * 2 ^ 1 + number (true ∷ []) = number-append w (true ∷ []) in omega (arith, e)
number_push w false = let e : number (w ++ false ∷ []) ≡ number w * 2 ^ 1 + number (false ∷ []) = number-append w (false ∷ []) in omega (arith, e)

pub number_more : (w : Word) (i : ℕ) → i < length w → number (take (i + 1) w) ≡ number (take i w) * 2 + bit (get_or w i false)
number_more w i below = ap number (take_more w i false below) ∙ number_push (take i w) (get_or w i false)

pub bit_most : (b : Bool) → bit b ≤ 1
bit_most true = omega arith
bit_most false = omega arith

-- a prefix is below a power of 2
pub prefix_below : (w : Word) (i : ℕ) → i < length w → length w ≤ 128 → number (take i w) < 2 ^ 127
prefix_below w i below few =
    let l : length (take i w) ≡ min i (length w) = length-take i w in
    let n : number (take i w) < 2 ^ length (take i w) = number_below (take i w) in
    let le : length (take i w) ≤ 127 = omega (arith, l, below, few) in
    let most : 2 ^ length (take i w) ≤ 2 ^ 127 = pow-le-pow_right (omega arith) le in
    omega (arith, n, most)
