-- A slice that reaches past the end is the part within.
use Rattle.std.proofs.Common.{◌≡◌, ℕ, zero, suc, ◌+◌, ◌-◌, min, List, [], ◌∷◌, length, take, drop, sym, ◌∙◌, ap, arith}
use Rattle.std.specs.Prelude.{slice_range}

drop_past : {A : Type 0} (xs : List A) (n : ℕ) → drop (min n (length xs)) xs ≡ drop n xs
drop_past xs zero = let e : min 0 (length xs) ≡ 0 = omega arith in ap (λ k. drop k xs) e
drop_past [] (suc n) = let e : min (suc n) 0 ≡ 0 = omega arith in ap (λ k. drop k []) e
drop_past (x ∷ xs) (suc n) = let e : min (suc n) (suc (length xs)) ≡ suc (min n (length xs)) = omega arith in ap (λ k. drop k (x ∷ xs)) e ∙ drop_past xs n

take_past : {A : Type 0} (xs : List A) (n : ℕ) → take (min n (length xs)) xs ≡ take n xs
take_past xs zero = let e : min 0 (length xs) ≡ 0 = omega arith in ap (λ k. take k xs) e
take_past [] (suc n) = let e : min (suc n) 0 ≡ 0 = omega arith in ap (λ k. take k []) e
take_past (x ∷ xs) (suc n) =
    let e : min (suc n) (suc (length xs)) ≡ suc (min n (length xs)) = omega arith in ap (λ k. take k (x ∷ xs)) e ∙ ap (λ ys. x ∷ ys) (take_past xs n)

length_drop : {A : Type 0} (xs : List A) (n : ℕ) → length (drop n xs) ≡ length xs - n
length_drop xs zero = omega arith
length_drop [] (suc n) = omega arith
length_drop (x ∷ xs) (suc n) = let e : suc (length xs) - suc n ≡ length xs - n = omega arith in length_drop xs n ∙ sym e

prefix_within : {A : Type 0} (xs : List A) (at len : ℕ) →
    take (min len (length xs - min at (length xs))) (drop (min at (length xs)) xs) ≡ take len (drop at xs)
prefix_within xs at len =
    let size : length (drop (min at (length xs)) xs) ≡ length xs - min at (length xs) = length_drop xs (min at (length xs)) in
    ap (λ n. take (min len n) (drop (min at (length xs)) xs)) (sym size)
    ∙ (take_past (drop (min at (length xs)) xs) len ∙ ap (take len) (drop_past xs at))

pub range_within : {A : Type 0} (xs : List A) (at len : ℕ) →
    slice_range xs (min at (length xs)) (min at (length xs) + min len (length xs - min at (length xs))) ≡ slice_range xs at (at + len)
range_within xs at len =
    let a : min at (length xs) + min len (length xs - min at (length xs)) - min at (length xs) ≡ min len (length xs - min at (length xs)) = omega arith in
    let b : at + len - at ≡ len = omega arith in
    ap (λ n. take n (drop (min at (length xs)) xs)) a ∙ (prefix_within xs at len ∙ ap (λ n. take n (drop at xs)) (sym b))
