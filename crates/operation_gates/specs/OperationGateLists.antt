-- The gate list of each kind of operation, over the words of its operands (CIRCT, Comb dialect: operation reference).
use Rattle.std.specs.Prelude.{ℕ, ◌+◌, ◌-◌, ◌/◌, List, [], ◌∷◌, ◌++◌, map, length, take, drop}
use Rattle.bits_core.specs.Word.{Word, bits_of_ℤ}
use Rattle.gates.specs.declared.signal.Signal.{Signal}
use Rattle.gates.specs.declared.signal.Signal.TheVariants.{Fixed}
use Rattle.gates.specs.Signals.{inverse}
use Rattle.gates.specs.Build.{Build, done, and_then}
use Rattle.gates.specs.Build as build
use Rattle.gate_words.specs.GateLists.{each, choose, odd, unlike, less, signed_less, top, added, subtracted, product, quotient, rest, signed_quotient, signed_rest, shifted_left, shifted_right, shifted_right_signed}
use Rattle.hw_model.specs.Types.{list_copies}
use Rattle.hw_model.specs.Kinds.{Kind, Predicate, Variadic, Division, Shift}
use Rattle.hw_model.specs.Kinds.Predicate.{eq, ne, slt, sle, sgt, sge, ult, ule, ugt, uge, ceq, cne, weq, wne}
use Rattle.hw_model.specs.Kinds.Variadic.{add, mul, and, or, xor}
use Rattle.hw_model.specs.Kinds.Division.{divu, modu, divs, mods}
use Rattle.hw_model.specs.Kinds.Shift.{shl, shru, shrs}
use Rattle.hw_model.specs.Kinds.Kind.{variadic, sub, division, shift, icmp, parity, extract, concat, replicate, mux, constant, bitcast, wire}
use Rattle.hw_model.specs.Value.{variadic_value}

-- a word of known bits
abbrev pub known_word : Word → List Signal
known_word = map Fixed

-- ---- operations of any number of operands

-- a gate list of two words on the first word and what the gate list makes of those after it
unfoldable pub fold_gate_lists : (List Signal → List Signal → Build (List Signal)) → List Signal → List (List Signal) → Build (List Signal)
fold_gate_lists f x [] = done x
fold_gate_lists f x (y ∷ ys) = and_then (fold_gate_lists f y ys) (λ low. f x low)

-- the gate list of two operands
abbrev pub pair_gate_list : Variadic → List Signal → List Signal → Build (List Signal)
pair_gate_list add = added
pair_gate_list mul = product
pair_gate_list and = each build.and
pair_gate_list or = each build.or
pair_gate_list xor = each build.exclusive

-- the gate list of any number of operands, with a result of w bits
abbrev pub variadic_gate_list : Variadic → ℕ → List (List Signal) → Build (List Signal)
variadic_gate_list v w [] = done (known_word (variadic_value v w []))
variadic_gate_list v w (x ∷ xs) = fold_gate_lists (pair_gate_list v) x xs

-- ---- operations of one, two or three operands; nothing is built for another number

abbrev pub gate_list_of_one : (List Signal → Build (List Signal)) → List (List Signal) → Build (List Signal)
gate_list_of_one f (x ∷ []) = f x
gate_list_of_one f _ = done []

abbrev pub gate_list_of_two : (List Signal → List Signal → Build (List Signal)) → List (List Signal) → Build (List Signal)
gate_list_of_two f (x ∷ y ∷ []) = f x y
gate_list_of_two f _ = done []

abbrev pub gate_list_of_three : (List Signal → List Signal → List Signal → Build (List Signal)) → List (List Signal) → Build (List Signal)
gate_list_of_three f (x ∷ y ∷ z ∷ []) = f x y z
gate_list_of_three f _ = done []

abbrev pub division_gate_list : Division → List Signal → List Signal → Build (List Signal)
division_gate_list divu = quotient
division_gate_list modu = rest
division_gate_list divs = signed_quotient
division_gate_list mods = signed_rest

abbrev pub shift_gate_list : Shift → List Signal → List Signal → Build (List Signal)
shift_gate_list shl = shifted_left
shift_gate_list shru = shifted_right
shift_gate_list shrs = shifted_right_signed

-- ---- comparisons

-- the other bit of what is built
abbrev pub negation : Build Signal → Build Signal
negation p = and_then p (λ s. done (inverse s))

-- a word of the one bit that is built
abbrev pub one_bit : Build Signal → Build (List Signal)
one_bit p = and_then p (λ s. done (s ∷ []))

abbrev pub comparison : Predicate → List Signal → List Signal → Build Signal
comparison eq x y = negation (unlike x y)
comparison ne x y = unlike x y
comparison slt x y = signed_less x y
comparison sle x y = negation (signed_less y x)
comparison sgt x y = signed_less y x
comparison sge x y = negation (signed_less x y)
comparison ult x y = less x y
comparison ule x y = negation (less y x)
comparison ugt x y = less y x
comparison uge x y = negation (less x y)
comparison ceq x y = negation (unlike x y)
comparison cne x y = unlike x y
comparison weq x y = negation (unlike x y)
comparison wne x y = unlike x y

-- ---- parts

-- the bits low to low + w - 1, counted from the least significant
abbrev pub part : ℕ → ℕ → List Signal → List Signal
part low w x = take w (drop (length x - (low + w)) x)

-- the words joined, the first most significant
abbrev pub concatenation : List (List Signal) → List Signal
concatenation [] = []
concatenation (x ∷ xs) = x ++ concatenation xs

-- ---- the gate list

-- the gate list of an operation on integers, or of a wire, with a result of w bits; nothing is built for another kind
abbrev pub gate_list_of : Kind → ℕ → List (List Signal) → Build (List Signal)
gate_list_of (variadic v) w xs = variadic_gate_list v w xs
gate_list_of sub w xs = gate_list_of_two subtracted xs
gate_list_of (division d) w xs = gate_list_of_two (division_gate_list d) xs
gate_list_of (shift s) w xs = gate_list_of_two (shift_gate_list s) xs
gate_list_of (icmp p) w xs = gate_list_of_two (λ x y. one_bit (comparison p x y)) xs
gate_list_of parity w xs = gate_list_of_one (λ x. one_bit (odd x)) xs
gate_list_of (extract low) w xs = gate_list_of_one (λ x. done (part low w x)) xs
gate_list_of concat w xs = done (concatenation xs)
gate_list_of replicate w xs = gate_list_of_one (λ x. done (list_copies (w / length x) x)) xs
gate_list_of mux w xs = gate_list_of_three (λ c x y. choose (top c) x y) xs
gate_list_of (constant z) w xs = done (known_word (bits_of_ℤ w z))
gate_list_of bitcast w xs = gate_list_of_one done xs
gate_list_of wire w xs = gate_list_of_one done xs
gate_list_of _ w xs = done []
