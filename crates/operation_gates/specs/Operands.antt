-- The kinds that have a gate list, and the operands that they take.
use Rattle.std.specs.Prelude.{◌≡◌, ℕ, ◌<◌, ◌≤◌, List, [], ◌∷◌, map, length}
use Rattle.gates.specs.declared.signal.Signal.{Signal}
use Rattle.gates.specs.Build.{Build}
use Rattle.gates.specs.Circuits.{Circuit, Runs}
use Rattle.hw_model.specs.Kinds.{Kind}
use Rattle.hw_model.specs.Kinds.Kind.{variadic, sub, division, shift, icmp, parity, extract, concat, replicate, mux, constant, aggregate_constant, on_array, on_struct, bitcast, wire, instance, output, register, async_firreg}

-- an operation on integers, or a wire (CIRCT, Comb dialect; HW dialect: `hw.constant`, `hw.bitcast`, `hw.wire`)
abbrev pub IsPlain : Kind → Type 0
IsPlain (aggregate_constant ls) = ⊥
IsPlain (on_array a) = ⊥
IsPlain (on_struct s) = ⊥
IsPlain (instance i) = ⊥
IsPlain output = ⊥
IsPlain (register f r) = ⊥
IsPlain async_firreg = ⊥
IsPlain _ = Unit {0}

-- each number is w
abbrev pub AreAll : ℕ → List ℕ → Type 0
AreAll w [] = Unit {0}
AreAll w (n ∷ ns) = (n ≡ w) × AreAll w ns

-- an operation of a plain kind may have operands of these widths and a result of w bits
abbrev pub TakesWidths : Kind → ℕ → List ℕ → Type 0
TakesWidths (variadic v) w ns = AreAll w ns
TakesWidths sub w ns = ns ≡ w ∷ w ∷ []
TakesWidths (division d) w ns = ns ≡ w ∷ w ∷ []
TakesWidths (shift s) w ns = ns ≡ w ∷ w ∷ []
TakesWidths (icmp p) w ns = (n : ℕ) × (ns ≡ n ∷ n ∷ [])
TakesWidths parity w ns = (n : ℕ) × (ns ≡ n ∷ [])
TakesWidths (extract low) w ns = (n : ℕ) × (ns ≡ n ∷ [])
TakesWidths concat w ns = Unit {0}
TakesWidths replicate w ns = (n : ℕ) × (ns ≡ n ∷ []) × (0 < n)
TakesWidths mux w ns = ns ≡ 1 ∷ w ∷ w ∷ []
TakesWidths (constant z) w ns = ns ≡ []
TakesWidths bitcast w ns = (n : ℕ) × (ns ≡ n ∷ [])
TakesWidths wire w ns = (n : ℕ) × (ns ≡ n ∷ [])
TakesWidths _ w ns = ⊥

-- a shift is of a word of 128 bits at most
abbrev pub IsShort : Kind → ℕ → Type 0
IsShort (shift s) w = w ≤ 128
IsShort _ w = Unit {0}

-- ---- the same of words, as far as a gate list needs it

-- there is one word, and it is so
abbrev pub OfOne : (List Signal → Type 0) → List (List Signal) → Type 0
OfOne P (x ∷ []) = P x
OfOne P _ = ⊥

-- there are two words, and they are so
abbrev pub OfTwo : (List Signal → List Signal → Type 0) → List (List Signal) → Type 0
OfTwo P (x ∷ y ∷ []) = P x y
OfTwo P _ = ⊥

-- there are three words, and they are so
abbrev pub OfThree : (List Signal → List Signal → List Signal → Type 0) → List (List Signal) → Type 0
OfThree P (x ∷ y ∷ z ∷ []) = P x y z
OfThree P _ = ⊥

-- the gate list of a plain kind, with a result of w bits, may be run over these words
abbrev pub TakesWords : Kind → ℕ → List (List Signal) → Type 0
TakesWords (variadic v) w xs = AreAll w (map length xs)
TakesWords sub w xs = OfTwo (λ x y. length x ≡ length y) xs
TakesWords (division d) w xs = OfTwo (λ x y. length x ≡ length y) xs
TakesWords (shift s) w xs = length xs ≡ 2
TakesWords (icmp p) w xs = OfTwo (λ x y. length x ≡ length y) xs
TakesWords parity w xs = length xs ≡ 1
TakesWords (extract low) w xs = length xs ≡ 1
TakesWords concat w xs = Unit {0}
TakesWords replicate w xs = OfOne (λ x. 0 < length x) xs
TakesWords mux w xs = OfThree (λ c x y. length x ≡ length y) xs
TakesWords (constant z) w xs = Unit {0}
TakesWords bitcast w xs = length xs ≡ 1
TakesWords wire w xs = length xs ≡ 1
TakesWords _ w xs = ⊥

-- the building gives the value and adds no gate
abbrev pub AddsNone : {A : Type 0} → Build A → A → Type 0
AddsNone p a = (s : Circuit) → Runs p s s a
