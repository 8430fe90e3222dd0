-- How many bits an index has, counted up.
use Rattle.std.proofs.Common.{◌≡◌, ℕ, zero, suc, ◌+◌, ◌*◌, ◌-◌, ◌^◌, ◌<◌, ◌≤◌, cond, refl, sym, ap, ◌∙◌, arith}
use Rattle.std.proofs.lemmas.Bool.{lt-ltb, le-ltb}
use Rattle.aggregate_laws.specs.Aggregates.{bits_from}

pub bits_stop : (fuel k n : ℕ) → n ≤ 2 ^ k → bits_from fuel k n ≡ k
bits_stop zero k n reached = refl
bits_stop (suc fuel) k n reached = ap (λ b. cond b (bits_from fuel (suc k) n) k) (le-ltb (2 ^ k) n reached)

pub bits_more : (fuel k n : ℕ) → 2 ^ k < n → bits_from (suc fuel) k n ≡ bits_from fuel (suc k) n
bits_more fuel k n below = ap (λ b. cond b (bits_from fuel (suc k) n) k) (lt-ltb (2 ^ k) n below)

pub below_power : (k : ℕ) → k < 2 ^ k
below_power zero = omega arith
below_power (suc k) = let one : 2 ^ suc k ≡ 2 ^ k + 2 ^ k = omega arith in let rest = below_power k in omega (arith, one, rest)

pub power_more : (k n : ℕ) → n ≡ 2 ^ k → n * 2 ≡ 2 ^ (k + 1)
power_more k n is =
    let next : suc k ≡ k + 1 = omega arith in
    let double : 2 ^ suc k ≡ 2 ^ k + 2 ^ k = omega arith in
    let both : n * 2 ≡ 2 ^ suc k = omega (arith, double, is) in
    both ∙ ap (λ j. 2 ^ j) next

-- one bit more
pub bits_next : (k reach n whole : ℕ) → reach ≡ 2 ^ k → reach < n → bits_from (n + 1 - k) k n ≡ whole → bits_from (n + 1 - (k + 1)) (k + 1) n ≡ whole
bits_next k reach n whole is below from =
    let small = below_power k in
    let fuel : n + 1 - k ≡ suc (n + 1 - (k + 1)) = omega (arith, small, is, below) in
    let next : k + 1 ≡ suc k = omega arith in
    let under : 2 ^ k < n = omega (arith, is, below) in
    ap (λ j. bits_from (n + 1 - (k + 1)) j n) next ∙ sym (bits_more (n + 1 - (k + 1)) k n under) ∙ ap (λ f. bits_from f k n) (sym fuel) ∙ from

-- enough bits
pub bits_enough : (k reach n whole fuel : ℕ) → reach ≡ 2 ^ k → n ≤ reach → bits_from fuel k n ≡ whole → k ≡ whole
bits_enough k reach n whole fuel is enough from = let over : n ≤ 2 ^ k = omega (arith, is, enough) in sym (bits_stop fuel k n over) ∙ from
