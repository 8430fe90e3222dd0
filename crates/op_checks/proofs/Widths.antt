-- Widths and numbers of bits.
use Rattle.std.proofs.Common.{◌≡◌, ℕ, ◌-◌, ◌^◌, ◌<◌, ◌≤◌, min, Bool, true, false, not, ◌&&◌, ◌||◌, refl, arith}
use Rattle.std.specs.Prelude.{nat_eq, nat_lt, nat_le}
use Rattle.std.proofs.lemmas.Bool.{ltb-false, lt-leb}
use Rattle.std.proofs.lemmas.Bool.Decides.{nat_tests}
use Rattle.std.proofs.Math.Pow.{pow_mono}
use Rattle.hw_model.specs.Types.{HwType, width}
use Rattle.hw_model.specs.Indices.{IsIndexWidth}
use Rattle.op_checks.specs.TypeChecks.{has_bad_part, is_outside}
use Rattle.op_checks.specs.LimitChecks.{is_width_of_index, has_type_outside}
use Rattle.hw_model.specs.Kinds.{Kind}
use Rattle.std.specs.List.{list_any}
use Rattle.std.proofs.Common.{List}

-- where neither holds, none does
pub neither : (a b : Bool) → a || b ≡ false → (a ≡ false) × (b ≡ false)
neither false b h = (refl, h)
neither true b h = cc

-- within the limits there are at most 4,096 bits
pub bits_within : (t : HwType) → is_outside t ≡ false → width t ≤ 4096
unfolding is_outside
bits_within t h =
    let a = neither (has_bad_part t) _ h in
    ltb-false 4096 (width t) (neither (nat_lt 4096 (width t)) _ a.1).0

-- within them widths up to a most are the widths
pub unequal : (t u : HwType) (m n : ℕ) → is_outside t ≡ false → is_outside u ≡ false → m ≡ min (width t) 18446744073709551615 → n ≡ min (width u) 18446744073709551615
    → not (nat_eq m n) ≡ not (nat_eq (width t) (width u))
unequal t u m n a b e f =
    let p = bits_within t a in
    let q = bits_within u b in
    let g : m ≡ width t = omega arith in
    let h : n ≡ width u = omega arith in cc

pub reaches_high : (e n : ℕ) → 128 ≤ e → n < 2 ^ 128 → nat_le (2 ^ e) n ≡ false
reaches_high e n h k =
    let p : 2 ^ 128 ≤ 2 ^ e = pow_mono h in
    lt-leb (2 ^ e) n (omega arith)

-- the test of a width, over the powers p of it and q of one less
told : (n j k p q : ℕ) → 1 ≤ k → (1 ≤ j → n ≤ p → k ≤ j) → (k ≤ j → n ≤ p) → (k < j → n ≤ q) → (1 < j → j ≡ k → q < n)
    → nat_eq j k ≡ nat_le 1 j && (nat_le n p && (nat_le j 1 || nat_lt q n))
told n j k p q some least here above below = grind (arith, nat_tests)

pub index_width_told : (n j k : ℕ) → IsIndexWidth n k → nat_eq j k ≡ is_width_of_index n j
unfolding is_width_of_index
index_width_told n j k w =
    told n j k (2 ^ j) (2 ^ (j - 1)) w.some (λ a b. w.least j a b)
    (λ a. let p : 2 ^ k ≤ 2 ^ j = pow_mono a in let e = w.enough in omega arith)
    (λ a. let r : k ≤ j - 1 = omega arith in let p : 2 ^ k ≤ 2 ^ (j - 1) = pow_mono r in let e = w.enough in omega arith)
    (λ a e. below n j k (2 ^ (j - 1)) a e (w.least (j - 1)))
  where
    below : (n j k q : ℕ) → 1 < j → j ≡ k → (1 ≤ j - 1 → n ≤ q → k ≤ j - 1) → q < n
    below n j k q a e h = grind arith

-- a test of all types that does not hold, does not of the written ones
pub types_within : (kind : Kind) (ts rs : List HwType) → has_type_outside kind ts rs ≡ false → list_any is_outside ts ≡ false
unfolding has_type_outside
types_within kind ts rs h = (neither (list_any is_outside ts) _ h).0
