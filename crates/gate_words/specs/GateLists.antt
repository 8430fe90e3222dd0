-- Gate lists over words of signals, the most significant first (IEEE 1364-2005, 5.1, of vectors).
use Rattle.std.specs.Prelude.{ℕ, ◌-◌, ◌^◌, min, true, false, cond, nat_lt, List, [], ◌∷◌, ◌++◌, map, length, take, drop, replicate}
use Rattle.gates.specs.declared.signal.Signal.{Signal}
use Rattle.gates.specs.declared.signal.Signal.TheVariants.{Fixed}
use Rattle.gates.specs.Signals.{inverse}
use Rattle.gates.specs.Build.{Build, done, and_then, and, or, exclusive, choice, full, majority}

-- ---- bit by bit

-- a building on each bit of a word and the bit of another in its place
unfoldable pub each : (Signal → Signal → Build Signal) → List Signal → List Signal → Build (List Signal)
each f [] ys = done []
each f (x ∷ xs) [] = done []
each f (x ∷ xs) (y ∷ ys) = and_then (each f xs ys) (λ low. and_then (f x y) (λ bit. done (bit ∷ low)))

-- the first word where the condition is 1, else the second
abbrev pub choose : Signal → List Signal → List Signal → Build (List Signal)
choose c xs ys = each (choice c) xs ys

-- the bits of a word, where the condition is 1
unfoldable pub masked : Signal → List Signal → Build (List Signal)
masked c [] = done []
masked c (x ∷ xs) = and_then (masked c xs) (λ low. and_then (and c x) (λ bit. done (bit ∷ low)))

-- the bits of a word, inverted where the condition is 1
unfoldable pub flipped : Signal → List Signal → Build (List Signal)
flipped c [] = done []
flipped c (x ∷ xs) = and_then (flipped c xs) (λ low. and_then (exclusive c x) (λ bit. done (bit ∷ low)))

-- the inverted word
abbrev pub inverses : List Signal → List Signal
inverses = map inverse

-- known bits of 0
abbrev pub no_bits : ℕ → List Signal
no_bits n = replicate n (Fixed false)

-- ---- all bits

-- a building on each bit and what there is of the bits below it
unfoldable pub reduced : (Signal → Signal → Build Signal) → List Signal → Build Signal
reduced f [] = done (Fixed false)
reduced f (x ∷ xs) = and_then (reduced f xs) (λ low. f x low)

-- whether a bit is 1
abbrev pub any : List Signal → Build Signal
any = reduced or

-- whether an odd number of bits is 1
abbrev pub odd : List Signal → Build Signal
odd = reduced exclusive

-- whether two words differ
unfoldable pub unlike : List Signal → List Signal → Build Signal
unlike xs ys = and_then (each exclusive xs ys) any

-- ---- sums

-- a word and its carry
pub record Total : Type 0 where
  pub word : List Signal
  pub carry : Signal

-- the sum of two words and a carry, by full adders
unfoldable pub sum : List Signal → List Signal → Signal → Build Total
sum [] ys c = done (record { word = []; carry = c })
sum (x ∷ xs) [] c = done (record { word = []; carry = c })
sum (x ∷ xs) (y ∷ ys) c =
    and_then (sum xs ys c) (λ low.
    and_then (full x y low.carry) (λ bit.
    done (record { word = bit.sum ∷ low.word; carry = bit.carry })))

-- the difference, whose carry is 1 where the first word is not less
abbrev pub difference : List Signal → List Signal → Build Total
difference xs ys = sum xs (inverses ys) (Fixed true)

-- the carry of that sum alone
unfoldable pub carried : List Signal → List Signal → Signal → Build Signal
carried [] ys c = done c
carried (x ∷ xs) [] c = done c
carried (x ∷ xs) (y ∷ ys) c = and_then (carried xs ys c) (λ low. majority x y low)

-- whether the first word is less
unfoldable pub less : List Signal → List Signal → Build Signal
less xs ys = and_then (carried xs (inverses ys) (Fixed true)) (λ enough. done (inverse enough))

-- the word with its top bit inverted, by which signed readings come into the order of numbers
abbrev pub top_inverted : List Signal → List Signal
top_inverted [] = []
top_inverted (x ∷ xs) = inverse x ∷ xs

-- the word, or what it lacks to the power where the condition is 1
unfoldable pub negated : Signal → List Signal → Build (List Signal)
negated c xs = and_then (flipped c xs) (λ ys. and_then (sum ys (no_bits (length ys)) c) (λ t. done t.word))

-- ---- products

-- the word moved up by one bit
abbrev pub doubled : List Signal → List Signal
doubled xs = drop 1 xs ++ take 1 (no_bits (length xs))

-- one step of Horner's rule: twice what there is, and the word where the bit is 1
unfoldable pub product_step : List Signal → List Signal → Signal → Build (List Signal)
product_step so_far xs y =
    and_then (masked y xs) (λ part.
    and_then (sum (doubled so_far) part (Fixed false)) (λ t.
    done t.word))

-- a step for each bit of the second word
unfoldable pub product_from : List Signal → List Signal → List Signal → Build (List Signal)
product_from so_far xs [] = done so_far
product_from so_far xs (y ∷ ys) = and_then (product_step so_far xs y) (λ next. product_from next xs ys)

abbrev pub product : List Signal → List Signal → Build (List Signal)
product xs ys = product_from (no_bits (length xs)) xs ys

-- ---- quotients

-- a bit of a quotient, and the rest that it leaves
pub record Trial : Type 0 where
  pub bit : Signal
  pub rest : List Signal

-- a quotient and its rest
pub record Quotient : Type 0 where
  pub quotient : List Signal
  pub rest : List Signal

-- one step of a restoring division: twice the rest and a bit, less the divisor where it is not less
unfoldable pub tried : List Signal → Signal → List Signal → Build Trial
tried rest x d =
    and_then (difference (rest ++ x ∷ []) (Fixed false ∷ d)) (λ t.
    and_then (choose t.carry t.word (rest ++ x ∷ [])) (λ kept.
    done (record { bit = t.carry; rest = drop 1 kept })))

-- restoring division, bit by bit from the top
unfoldable pub divided_from : List Signal → List Signal → List Signal → Build Quotient
divided_from rest [] d = done (record { quotient = []; rest = rest })
divided_from rest (x ∷ xs) d =
    and_then (tried rest x d) (λ t.
    and_then (divided_from t.rest xs d) (λ q.
    done (record { quotient = t.bit ∷ q.quotient; rest = q.rest })))

abbrev pub divided : List Signal → List Signal → Build Quotient
divided xs d = divided_from (no_bits (length xs)) xs d

-- the quotient, and 0 where the divisor is 0
unfoldable pub quotient : List Signal → List Signal → Build (List Signal)
quotient xs d = and_then (divided xs d) (λ q. and_then (any d) (λ some. masked some q.quotient))

-- the rest, and the dividend where the divisor is 0
unfoldable pub rest : List Signal → List Signal → Build (List Signal)
rest xs d = and_then (divided xs d) (λ q. done q.rest)

-- the top bit
abbrev pub top : List Signal → Signal
top [] = Fixed false
top (x ∷ xs) = x

-- the quotient of signed readings, by magnitudes
unfoldable pub signed_quotient : List Signal → List Signal → Build (List Signal)
signed_quotient xs d =
    and_then (negated (top xs) xs) (λ a.
    and_then (negated (top d) d) (λ b.
    and_then (quotient a b) (λ q.
    and_then (exclusive (top xs) (top d)) (λ s.
    negated s q))))

-- its rest, with the dividend's sign
unfoldable pub signed_rest : List Signal → List Signal → Build (List Signal)
signed_rest xs d =
    and_then (negated (top xs) xs) (λ a.
    and_then (negated (top d) d) (λ b.
    and_then (rest a b) (λ r.
    negated (top xs) r)))

-- ---- shifts

-- up, with bits of 0 from below
abbrev pub moved_up : List Signal → ℕ → List Signal
moved_up xs n = drop n xs ++ no_bits (min n (length xs))

-- down, with copies of a signal from above
abbrev pub moved_down : Signal → List Signal → ℕ → List Signal
moved_down s xs n = replicate (min n (length xs)) s ++ take (length xs - n) xs

-- a word moved by the bits of an amount that count below its width, and whether the amount has other bits
pub record Shifted : Type 0 where
  pub word : List Signal
  pub is_out : Signal

-- one stage: where the distance is below the width, the word moved by it where the bit is 1; else a bit of more
abbrev pub stage : (List Signal → ℕ → List Signal) → ℕ → ℕ → Signal → Shifted → Build Shifted
stage f width distance b low =
    cond (nat_lt distance width)
    (and_then (choose b (f low.word distance) low.word) (λ word. done (record { word = word; is_out = low.is_out })))
    (and_then (or b low.is_out) (λ is_out. done (record { word = low.word; is_out = is_out })))

-- the word moved by each bit of the amount that counts below its width; a bit of more is told apart
unfoldable pub moved_from : (List Signal → ℕ → List Signal) → List Signal → List Signal → Build Shifted
moved_from f xs [] = done (record { word = xs; is_out = Fixed false })
moved_from f xs (b ∷ ys) = and_then (moved_from f xs ys) (λ low. stage f (length xs) (2 ^ length ys) b low)

-- the word moved by a number
unfoldable pub moved : (List Signal → ℕ → List Signal) → List Signal → List Signal → Build (List Signal)
moved f xs ys = and_then (moved_from f xs ys) (λ s. choose s.is_out (f xs (length xs)) s.word)

-- ---- gate lists of two words

-- the sum
unfoldable pub added : List Signal → List Signal → Build (List Signal)
added xs ys = and_then (sum xs ys (Fixed false)) (λ t. done t.word)

-- the difference
unfoldable pub subtracted : List Signal → List Signal → Build (List Signal)
subtracted xs ys = and_then (difference xs ys) (λ t. done t.word)

-- whether the signed reading of the first word is less
abbrev pub signed_less : List Signal → List Signal → Build Signal
signed_less xs ys = less (top_inverted xs) (top_inverted ys)

-- the first word moved up by the number of the second
abbrev pub shifted_left : List Signal → List Signal → Build (List Signal)
shifted_left = moved moved_up

-- moved down
abbrev pub shifted_right : List Signal → List Signal → Build (List Signal)
shifted_right = moved (moved_down (Fixed false))

-- moved down with its sign
abbrev pub shifted_right_signed : List Signal → List Signal → Build (List Signal)
shifted_right_signed xs ys = moved (moved_down (top xs)) xs ys
