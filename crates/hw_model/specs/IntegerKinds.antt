-- Operations on integers, and the words that they take.
use Rattle.std.specs.Prelude.{◌≡◌, ℕ, ◌+◌, ◌%◌, ◌≤◌, List, [], ◌∷◌, map, length, All}
use Rattle.wiring.specs.Lists.{total}
use Rattle.bits_core.specs.Word.{Word}
use Rattle.hw_model.specs.Kinds.{Kind}
use Rattle.hw_model.specs.Kinds.Kind.{variadic, sub, division, shift, icmp, parity, extract, concat, replicate, mux, constant}

-- there is one word, and it is so
abbrev pub OfOne : (Word → Type 0) → List Word → Type 0
OfOne P (x ∷ []) = P x
OfOne P _ = ⊥

-- there are two words, and they are so
abbrev pub OfTwo : (Word → Word → Type 0) → List Word → Type 0
OfTwo P (x ∷ y ∷ []) = P x y
OfTwo P _ = ⊥

-- each word has w bits
abbrev pub AllHave : ℕ → List Word → Type 0
AllHave w xs = All (λ (x : Word). length x ≡ w) xs

-- the kind is one of integers, and with a result of w bits it may have these words as operands
abbrev pub TakesWords : Kind → ℕ → List Word → Type 0
TakesWords (variadic v) w xs = AllHave w xs
TakesWords sub w xs = OfTwo (λ x y. length x ≡ length y) xs
TakesWords (division d) w xs = OfTwo (λ x y. length x ≡ length y) xs
TakesWords (shift s) w xs = length xs ≡ 2
TakesWords (icmp p) w xs = OfTwo (λ x y. length x ≡ length y) xs
TakesWords parity w xs = length xs ≡ 1
TakesWords (extract low) w xs = OfOne (λ x. low + w ≤ length x) xs
TakesWords concat w xs = total (map length xs) ≡ w
TakesWords replicate w xs = OfOne (λ x. w % length x ≡ 0) xs
TakesWords mux w xs = length xs ≡ 3
TakesWords (constant z) w xs = xs ≡ []
TakesWords _ w xs = ⊥
