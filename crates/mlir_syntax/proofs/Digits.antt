-- Numbers that are read digit by digit: what is before bounds them from below.
use Rattle.std.proofs.Common.{◌≡◌, ℕ, ◌+◌, ◌*◌, ◌≤◌, List, [], ◌∷◌, drop, length, ◌<◌, None, Some, arith, drop_of_length-le, refl, ◌∙◌, ap}
use Rattle.std.proofs.lemmas.Bool.{lt-ltb}
use Rattle.std.proofs.Math.Nat.{mul-le-mul_left}
use Rattle.mlir_lexer.specs.Contents.{hex_value}
use Rattle.mlir_syntax.specs.Numerals.{number_in, below, number_limit}

-- the digits before a position stand for a number below the limit
pub record IsPrefix (base : ℕ) (ds : List ℕ) (number at : ℕ) : Type 0 where
  pub same : number_in base 0 ds ≡ number_in base number (drop at ds)
  pub small : number < number_limit

grown : (prefix base h : ℕ) → 1 ≤ base → prefix ≤ prefix * base + h
grown prefix base h some = let more = mul-le-mul_left prefix some in omega (arith, more)

number_in-least : (base prefix : ℕ) (bs : List ℕ) → 1 ≤ base → prefix ≤ number_in base prefix bs
number_in-least base prefix [] some = omega arith
number_in-least base prefix (b ∷ bs) some =
    let more = number_in-least base (prefix * base + hex_value b) bs some in
    let here = grown prefix base (hex_value b) some in
    omega (arith, more, here)

below-none : (limit n m : ℕ) → None ≡ below limit n → n ≤ m → None ≡ below limit m
below-none limit n m e le = grind arith

below-some : (limit k n : ℕ) → Some k ≡ below limit n → (k ≡ n) × (n < limit)
below-some limit k n e = grind arith

pub too_large : (base prefix b : ℕ) (ds bs : List ℕ) → 1 ≤ base → number_in base 0 ds ≡ number_in base prefix (b ∷ bs)
    → None ≡ below number_limit (prefix * base + hex_value b) → None ≡ below number_limit (number_in base 0 ds)
too_large base prefix b ds bs some same none =
    rw same (below-none number_limit (prefix * base + hex_value b) (number_in base (prefix * base + hex_value b) bs) none (number_in-least base (prefix * base + hex_value b) bs some))

pub whole : (base n i : ℕ) (ds : List ℕ) → IsPrefix base ds n i → length ds ≤ i → Some n ≡ below number_limit (number_in base 0 ds)
whole base n i ds h le =
    let all : number_in base 0 ds ≡ n = h.same ∙ ap (number_in base n) (drop_of_length-le ds le) in
    rw (all, lt-ltb n number_limit h.small) refl
