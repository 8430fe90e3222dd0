-- The width of an array's indices is the least that has a number for each element.
use Rattle.std.proofs.Common.{◌≡◌, ℕ, zero, suc, ◌+◌, ◌-◌, ◌^◌, ◌<◌, ◌≤◌, Bool, true, false, cond, ◌||◌, nat_lt, refl, ap, sym, arith}
use Rattle.std.specs.Prelude.{nat_le, ◌&&◌}
use Rattle.std.proofs.lemmas.Bool.{ltb-true, ltb-false, leb-true}
use Rattle.std.proofs.Math.Nat.{pow-suc}
use Rattle.std.proofs.Math.Pow.{pow_mono}
use Rattle.hw_model.specs.Equality.{both_of}
use Rattle.op_checks.specs.LimitChecks.{is_width_of_index}
use Rattle.aggregate_laws.specs.Aggregates.{bits_from, index_bits}

-- a power of 2 is above its exponent
above_exponent : (n : ℕ) → n < 2 ^ n
above_exponent zero = omega arith
above_exponent (suc n) = omega (arith, above_exponent n, pow-suc 2 n)

-- a width that has a number for each of n elements, where no lesser one has, from k on
record IsLeast (n k w : ℕ) : Type 0 where
  from : k ≤ w
  enough : n ≤ 2 ^ w
  least : k < w → 2 ^ (w - 1) < n

-- it is the one that is found
found_least : (more n k w : ℕ) → IsLeast n k w → w ≤ k + more → bits_from more k n ≡ w
found_least zero n k w is within = let low = is.from in let e : k ≡ w = omega arith in e
found_least (suc more) n k w is within = go (nat_lt (2 ^ k) n) refl (found_least more n (suc k) w)
  where
    past : (c : Bool) → nat_lt k w ≡ c → 2 ^ k < n → suc k ≤ w
    past true below short = let lower : k < w = ltb-true k w below in omega arith
    past false past_it short =
        let low = is.from in
        let high : w ≤ k = ltb-false k w past_it in
        let same : w ≡ k = omega arith in
        let room : n ≤ 2 ^ w = is.enough in
        let power : 2 ^ w ≡ 2 ^ k = ap (λ m. 2 ^ m) same in
        absurd (omega arith)

    ends : (c : Bool) → nat_lt k w ≡ c → n ≤ 2 ^ k → k ≤ w → k ≡ w
    ends true below room low =
        let lower : k < w = ltb-true k w below in
        let short : 2 ^ (w - 1) < n = is.least lower in
        let order : k ≤ w - 1 = omega arith in
        let power : 2 ^ k ≤ 2 ^ (w - 1) = pow_mono order in
        absurd (omega arith)
    ends false past_it room low = let high : w ≤ k = ltb-false k w past_it in omega arith

    go : (b : Bool) → nat_lt (2 ^ k) n ≡ b → (IsLeast n (suc k) w → w ≤ suc k + more → bits_from more (suc k) n ≡ w) → cond b (bits_from more (suc k) n) k ≡ w
    go true less rest =
        let short : 2 ^ k < n = ltb-true (2 ^ k) n less in
        let higher : suc k ≤ w = past (nat_lt k w) refl short in
        rest (record { from = higher; enough = is.enough; least = λ below. is.least (omega arith) }) (omega arith)
    go false long rest = ends (nat_lt k w) refl (ltb-false (2 ^ k) n long) is.from

-- what the test of an index's width says
pub index_least : (n w : ℕ) → is_width_of_index n w ≡ true → (w ≡ index_bits n) × (n ≤ 2 ^ w)
unfolding is_width_of_index
index_least n w is =
    let outer = both_of (nat_le 1 w) (nat_le n (2 ^ w) && (nat_le w 1 || nat_lt (2 ^ (w - 1)) n)) is in
    let inner = both_of (nat_le n (2 ^ w)) (nat_le w 1 || nat_lt (2 ^ (w - 1)) n) outer.1 in
    let some : 1 ≤ w = leb-true 1 w outer.0 in
    let room : n ≤ 2 ^ w = leb-true n (2 ^ w) inner.0 in
    (sym (found_least n n 1 w (record { from = some; enough = room; least = λ above. lesser (nat_le w 1) refl inner.1 above }) (few (nat_lt 1 w) refl inner.1)), room)
  where
    lesser : (b : Bool) → nat_le w 1 ≡ b → (b || nat_lt (2 ^ (w - 1)) n) ≡ true → 1 < w → 2 ^ (w - 1) < n
    lesser true one h above = let low : w ≤ 1 = leb-true w 1 one in absurd (omega arith)
    lesser false more h above = ltb-true (2 ^ (w - 1)) n h

    few : (c : Bool) → nat_lt 1 w ≡ c → (nat_le w 1 || nat_lt (2 ^ (w - 1)) n) ≡ true → w ≤ 1 + n
    few true above h =
        let high : 1 < w = ltb-true 1 w above in
        let short : 2 ^ (w - 1) < n = lesser (nat_le w 1) refl h high in
        let low : w - 1 < 2 ^ (w - 1) = above_exponent (w - 1) in
        omega arith
    few false one h = let low : w ≤ 1 = ltb-false 1 w one in omega arith

-- ---- how wide the index of an array may be

pub at_least : (more k n : ℕ) → k ≤ bits_from more k n
at_least zero k n = omega arith
at_least (suc more) k n = go (nat_lt (2 ^ k) n) (at_least more (suc k) n)
  where
    go : (b : Bool) → suc k ≤ bits_from more (suc k) n → k ≤ cond b (bits_from more (suc k) n) k
    go true rest = omega arith
    go false rest = omega arith

pub at_most : (more k n c : ℕ) → n ≤ 2 ^ c → k ≤ c → bits_from more k n ≤ c
at_most zero k n c room low = low
at_most (suc more) k n c room low = go (nat_lt (2 ^ k) n) refl (at_most more (suc k) n c room)
  where
    go : (b : Bool) → nat_lt (2 ^ k) n ≡ b → (suc k ≤ c → bits_from more (suc k) n ≤ c) → cond b (bits_from more (suc k) n) k ≤ c
    go false long rest = low
    go true less rest = rest (by (nat_lt k c) refl)
      where
        short : 2 ^ k < n
        short = ltb-true (2 ^ k) n less

        by : (b : Bool) → nat_lt k c ≡ b → suc k ≤ c
        by true below = let lower : k < c = ltb-true k c below in omega arith
        by false past =
            let high : c ≤ k = ltb-false k c past in
            let power : 2 ^ c ≤ 2 ^ k = pow_mono high in
            let less_k : 2 ^ k < n = short in
            absurd (omega arith)
