-- A number that each fold of a body lowers: folds end.
use Rattle.std.proofs.Common.{◌≡◌, ℕ, zero, suc, ◌+◌, ◌*◌, ◌<◌, ◌≤◌, Bool, true, false, cond, nat_lt, List, [], ◌∷◌, length, refl, ap, inl, inr, arith, mul-add, mul-le-mul, suc-mul, mul-suc}
use Rattle.std.proofs.lemmas.Bool.{ltb-true, ltb-false}
use Rattle.hw_model.specs.Kinds.{Kind}
use Rattle.hw_model.specs.Kinds.Kind.{variadic}
use Rattle.hw_model.specs.Design.{Ref, Op}
use Rattle.fold_laws.specs.Fold.{kind_measure, op_measure, measure, is_constant_in, count_others, pairs_before, kind_misplaced, misplaced_by, misplaced, IsSmaller}

-- the sum of the squares of all numbers below one, and of as many ones
abbrev pub squares : ℕ → ℕ
squares zero = 0
squares (suc n) = squares n + (n * n + 1)

-- the measure counts for more than all constants that may stand before other operands
abbrev pub rank : List Op → ℕ
rank os = squares (measure os) + misplaced os

others_few : (test : Ref → Bool) (rs : List Ref) → count_others test rs ≤ length rs
others_few test [] = omega arith
others_few test (r ∷ rs) = go (test r) (others_few test rs)
  where
    go : (b : Bool) → count_others test rs ≤ length rs → cond b (count_others test rs) (suc (count_others test rs)) ≤ suc (length rs)
    go true h = omega (arith, h)
    go false h = omega (arith, h)

pairs_few : (test : Ref → Bool) (rs : List Ref) → pairs_before test rs ≤ length rs * length rs
pairs_few test [] = omega arith
pairs_few test (r ∷ rs) = go (test r) (others_few test rs) (pairs_few test rs)
  where
    go : (b : Bool) → count_others test rs ≤ length rs → pairs_before test rs ≤ length rs * length rs → cond b (count_others test rs) 0 + pairs_before test rs ≤ suc (length rs) * suc (length rs)
    go b few less =
        let square : suc (length rs) * suc (length rs) ≡ suc (length rs) + length rs * suc (length rs) = omega (arith, suc-mul (length rs) (suc (length rs))) in
        let more : length rs * suc (length rs) ≡ length rs + length rs * length rs = omega (arith, mul-suc (length rs) (length rs)) in
        within b few less square more
      where
        within : (b : Bool) → count_others test rs ≤ length rs → pairs_before test rs ≤ length rs * length rs → suc (length rs) * suc (length rs) ≡ suc (length rs) + length rs * suc (length rs)
            → length rs * suc (length rs) ≡ length rs + length rs * length rs → cond b (count_others test rs) 0 + pairs_before test rs ≤ suc (length rs) * suc (length rs)
        within true few less square more = omega (arith, few, less, square, more)
        within false few less square more = omega (arith, few, less, square, more)

squares_le : (m n : ℕ) → m ≤ n → m * m ≤ n * n
squares_le m n less = mul-le-mul less less

kind_few : (test : Ref → Bool) (kind : Kind) (rs : List Ref) → kind_misplaced test kind rs ≤ kind_measure kind (length rs) * kind_measure kind (length rs)
kind_few test (variadic v) rs =
    let few : pairs_before test rs ≤ length rs * length rs = pairs_few test rs in
    let more : length rs * length rs ≤ kind_measure (variadic v) (length rs) * kind_measure (variadic v) (length rs) = squares_le (length rs) (kind_measure (variadic v) (length rs)) (omega arith) in
    omega (arith, few, more)
kind_few test _ rs = omega arith

few_by : (test : Ref → Bool) (os : List Op) → misplaced_by test os ≤ measure os * measure os
few_by test [] = omega arith
few_by test (o ∷ os) =
    let first : kind_misplaced test o.kind o.operands ≤ op_measure o * op_measure o = kind_few test o.kind o.operands in
    let rest : misplaced_by test os ≤ measure os * measure os = few_by test os in
    let left : (op_measure o + measure os) * (op_measure o + measure os) ≡ (op_measure o + measure os) * op_measure o + (op_measure o + measure os) * measure os = mul-add (op_measure o + measure os) (op_measure o) (measure os) in
    let one : op_measure o * op_measure o ≤ (op_measure o + measure os) * op_measure o = mul-le-mul (omega arith) (omega arith) in
    let two : measure os * measure os ≤ (op_measure o + measure os) * measure os = mul-le-mul (omega arith) (omega arith) in
    omega (arith, first, rest, left, one, two)

pub misplaced_few : (os : List Op) → misplaced os ≤ measure os * measure os
misplaced_few os = few_by (is_constant_in os) os

squares_rise : (m n : ℕ) → m < n → squares m + m * m < squares n
squares_rise m zero less = absurd (omega arith)
squares_rise m (suc n) less = go (nat_lt m n) refl (λ l. squares_rise m n l)
  where
    go : (b : Bool) → nat_lt m n ≡ b → (m < n → squares m + m * m < squares n) → squares m + m * m < squares n + (n * n + 1)
    go true below rise = omega (arith, rise (ltb-true m n below))
    go false below rise =
        let same : m ≡ n = omega (arith, ltb-false m n below, less) in
        let equal : squares m + m * m ≡ squares n + n * n = ap (λ k. squares k + k * k) same in
        omega (arith, equal)

pub smaller_is_lower : (os os' : List Op) → IsSmaller os' os → rank os' < rank os
smaller_is_lower os os' (inl less) =
    let up : squares (measure os') + measure os' * measure os' < squares (measure os) = squares_rise (measure os') (measure os) less in
    let few : misplaced os' ≤ measure os' * measure os' = misplaced_few os' in
    omega (arith, up, few)
smaller_is_lower os os' (inr (same, fewer)) =
    let equal : squares (measure os') ≡ squares (measure os) = ap squares same in
    omega (arith, equal, fewer)
