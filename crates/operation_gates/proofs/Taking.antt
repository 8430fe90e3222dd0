-- The words that gate lists take, and gate lists that were run from the last operand on.
use Rattle.std.proofs.Common.{◌≡◌, refl, sym, ap, ap₂, subst, ◌∙◌, ℕ, zero, suc, ◌+◌, ◌-◌, ◌<◌, ◌≤◌, ◌==◌, true, false, List, [], ◌∷◌, map, length, drop, get_or, arith, drop-cons, eqb-true, Result, Ok, Err, IfOk}
use Rattle.std.proofs.lemmas.List.{drop_all}
use Rattle.gates.specs.declared.signal.Gate.{Gate}
use Rattle.gates.specs.declared.signal.Signal.{Signal}
use Rattle.gates.specs.Build.{Build, done}
use Rattle.gates.specs.Circuits.{Circuit, Runs}
use Rattle.gates.proofs.Running.{runs-done, runs_then}
use Rattle.gates.proofs.Carrying.{Makes}
use Rattle.gate_words.specs.Computes.{word_of}
use Rattle.gate_words.proofs.Words.{IsWord, word_length}
use Rattle.gate_words.proofs.Computing.{counting, carries_any, length-word_of}
use Rattle.hw_model.specs.Kinds.{Kind, Variadic}
use Rattle.hw_model.specs.Kinds.Kind.{variadic, sub, division, shift, icmp, concat, replicate, mux, constant, aggregate_constant, on_array, on_struct, instance, output, register, async_firreg}
use Rattle.operation_gates.specs.OperationGateLists.{fold_gate_lists, pair_gate_list, variadic_gate_list, one_bit, gate_list_of_one}
use Rattle.operation_gates.specs.Operands.{AreAll, OfOne, OfTwo, OfThree, TakesWidths, TakesWords, AddsNone}
use Rattle.operation_gates.specs.Prices.{first_width}
use Rattle.operation_gates.proofs.Folding.{pair_op, pair_op_width, makes-pair}

-- ---- as many words

pub length-of_one : (P : List Signal → Type 0) (xs : List (List Signal)) → OfOne P xs → length xs ≡ 1
length-of_one P [] h = absurd h
length-of_one P (x ∷ []) h = refl
length-of_one P (x ∷ y ∷ xs) h = absurd h

pub length-of_two : (P : List Signal → List Signal → Type 0) (xs : List (List Signal)) → OfTwo P xs → length xs ≡ 2
length-of_two P [] h = absurd h
length-of_two P (x ∷ []) h = absurd h
length-of_two P (x ∷ y ∷ []) h = refl
length-of_two P (x ∷ y ∷ z ∷ xs) h = absurd h

pub length-of_three : (P : List Signal → List Signal → List Signal → Type 0) (xs : List (List Signal)) → OfThree P xs → length xs ≡ 3
length-of_three P [] h = absurd h
length-of_three P (x ∷ []) h = absurd h
length-of_three P (x ∷ y ∷ []) h = absurd h
length-of_three P (x ∷ y ∷ z ∷ []) h = refl
length-of_three P (x ∷ y ∷ z ∷ w ∷ xs) h = absurd h

-- ---- the words of operands of known widths

one_word : (a : ℕ) (xs : List (List Signal)) → map length xs ≡ a ∷ [] → OfOne (λ x. length x ≡ a) xs
one_word a [] e = absurd (omega (arith, ap length e))
one_word a (x ∷ []) e = ap first_width e
one_word a (x ∷ y ∷ xs) e = absurd (omega (arith, ap length e))

positive_word : (a : ℕ) (xs : List (List Signal)) → 0 < a → map length xs ≡ a ∷ [] → OfOne (λ x. 0 < length x) xs
positive_word a [] some e = absurd (omega (arith, ap length e))
positive_word a (x ∷ []) some e = let own : length x ≡ a = ap first_width e in omega arith
positive_word a (x ∷ y ∷ xs) some e = absurd (omega (arith, ap length e))

alike_words : (a : ℕ) (xs : List (List Signal)) → map length xs ≡ a ∷ a ∷ [] → OfTwo (λ x y. length x ≡ length y) xs
alike_words a [] e = absurd (omega (arith, ap length e))
alike_words a (x ∷ []) e = absurd (omega (arith, ap length e))
alike_words a (x ∷ y ∷ []) e = ap first_width e ∙ sym (ap (λ ns. first_width (drop 1 ns)) e)
alike_words a (x ∷ y ∷ z ∷ xs) e = absurd (omega (arith, ap length e))

alike_last : (a b : ℕ) (xs : List (List Signal)) → map length xs ≡ a ∷ b ∷ b ∷ [] → OfThree (λ c x y. length x ≡ length y) xs
alike_last a b [] e = absurd (omega (arith, ap length e))
alike_last a b (x ∷ []) e = absurd (omega (arith, ap length e))
alike_last a b (x ∷ y ∷ []) e = absurd (omega (arith, ap length e))
alike_last a b (x ∷ y ∷ z ∷ []) e = ap (λ ns. first_width (drop 1 ns)) e ∙ sym (ap (λ ns. first_width (drop 2 ns)) e)
alike_last a b (x ∷ y ∷ z ∷ w ∷ xs) e = absurd (omega (arith, ap length e))

pub takes_words : (kind : Kind) (w : ℕ) (xs : List (List Signal)) → TakesWidths kind w (map length xs) → TakesWords kind w xs
takes_words (variadic v) w xs takes = takes
takes_words sub w xs takes = alike_words w xs takes
takes_words (division d) w xs takes = alike_words w xs takes
takes_words (shift s) w xs takes = length-of_two (λ x y. length x ≡ length y) xs (alike_words w xs takes)
takes_words (icmp p) w xs takes = alike_words takes.0 xs takes.1
takes_words concat w xs takes = tt
takes_words replicate w xs takes = positive_word takes.0 xs takes.2 takes.1
takes_words mux w xs takes = alike_last 1 w xs takes
takes_words (constant z) w xs takes = tt
takes_words (aggregate_constant ls) w xs takes = absurd takes
takes_words (on_array a) w xs takes = absurd takes
takes_words (on_struct s) w xs takes = absurd takes
takes_words (instance i) w xs takes = absurd takes
takes_words output w xs takes = absurd takes
takes_words (register f r) w xs takes = absurd takes
takes_words async_firreg w xs takes = absurd takes
takes_words _ w xs takes = length-of_one (λ x. length x ≡ takes.0) xs (one_word takes.0 xs takes.1)

-- ---- no gate is added

pub adds_none : {A : Type 0} (a b : A) → b ≡ a → AddsNone (done a) b
adds_none a b e = λ s. subst (λ x. Runs (done a) s s x) (sym e) runs-done

pub runs_none : {A E : Type 0} (p : Build A) (s : Circuit) (r : Result A E) → IfOk r (AddsNone p) → IfOk r (Runs p s s)
runs_none p s (Ok a) h = h s
runs_none p s (Err e) h = h

pub adds_of_one : (f : List Signal → List Signal) (xs : List (List Signal)) (x word : List Signal) → xs ≡ x ∷ [] → word ≡ f x
    → AddsNone (gate_list_of_one (λ y. done (f y)) xs) word
adds_of_one f xs x word e is = subst (λ ys. AddsNone (gate_list_of_one (λ y. done (f y)) ys) word) (sym e) (adds_none (f x) word is)

-- ---- a word of one bit

pub one_bit_run : {E : Type 0} (p : Build Signal) (s t : Circuit) (b : Signal) (r : Result (List Signal) E) → Runs p s t b → IfOk r (λ w. w ≡ b ∷ [])
    → IfOk r (Runs (one_bit p) s t)
one_bit_run p s t b (Ok w) run is = subst (λ z. Runs (one_bit p) s t z) (sym is) (runs_then _ run runs-done)
one_bit_run p s t b (Err e) run is = is

-- ---- from the last operand on

pub empty_of : (xs : List (List Signal)) → (length xs == 0) ≡ true → xs ≡ []
empty_of [] e = refl
empty_of (x ∷ xs) e = absurd (omega (arith, eqb-true (length (x ∷ xs)) 0 e))

pub some_of : (xs : List (List Signal)) → (length xs == 0) ≡ false → 0 < length xs
some_of [] e = absurd cc
some_of (x ∷ xs) e = omega arith

pub width_at : (w : ℕ) (xs : List (List Signal)) (i : ℕ) (x : List Signal) → AreAll w (map length xs) → i < length xs → x ≡ get_or xs i x → length x ≡ w
width_at w [] i x all h e = absurd (omega arith)
width_at w (y ∷ xs) zero x all h e = ap length e ∙ all.0
width_at w (y ∷ xs) (suc i) x all h e = width_at w xs i x all.1 (omega arith) e

pub variadic_start : (v : Variadic) (w : ℕ) (xs : List (List Signal)) (i : ℕ) (x word : List Signal) {s : Circuit} → i + 1 ≡ length xs → x ≡ get_or xs i x
    → word ≡ x → Runs (variadic_gate_list v w (drop i xs)) s s word
unfolding fold_gate_lists
variadic_start v w xs i x word {s = s} last e same =
    let inside : i < length xs = omega arith in
    let past : length xs ≤ suc i = omega arith in
    let one : drop i xs ≡ x ∷ [] = drop-cons xs i x inside ∙ ap₂ (λ (y : List Signal) (ys : List (List Signal)). y ∷ ys) (sym e) (drop_all (suc i) xs past) in
    subst (λ zs. Runs (variadic_gate_list v w zs) s s word) (sym one) (subst (λ z. Runs (variadic_gate_list v w (x ∷ [])) s s z) (sym same) runs-done)

pub variadic_before : (v : Variadic) (w : ℕ) (xs : List (List Signal)) (i : ℕ) (x so_far next : List Signal) {s t u : Circuit}
    → 0 < i → i < length xs → x ≡ get_or xs (i - 1) x
    → Runs (variadic_gate_list v w (drop i xs)) s t so_far → Runs (pair_gate_list v x so_far) t u next → Runs (variadic_gate_list v w (drop (i - 1) xs)) s u next
unfolding fold_gate_lists
variadic_before v w xs i x so_far next {s = s} {t = t} {u = u} some h e first second =
    let before : i - 1 < length xs = omega arith in
    let back : suc (i - 1) ≡ i = omega arith in
    let y = get_or xs i x in
    let ys = drop (suc i) xs in
    let rest : drop i xs ≡ y ∷ ys = drop-cons xs i x h in
    let all : drop (i - 1) xs ≡ x ∷ y ∷ ys =
    drop-cons xs (i - 1) x before
    ∙ ap₂ (λ (z : List Signal) (zs : List (List Signal)). z ∷ zs) (sym e) (ap (λ k. drop k xs) back ∙ rest) in
    subst (λ zs. Runs (variadic_gate_list v w zs) s u next) (sym all)
    (runs_then _ (subst (λ zs. Runs (variadic_gate_list v w zs) s t so_far) rest first) second)

pub length-pair_gate_list : (v : Variadic) (x y : List Signal) (inputs : ℕ) (gates : List Gate) → length x ≡ length y → length (pair_gate_list v x y inputs gates).got ≡ length x
length-pair_gate_list v x y inputs gates e =
    let w = length x in
    let n = inputs + length gates in
    let first : length (word_of [] x) ≡ w = length-word_of [] x in
    let second : length (word_of [] y) ≡ w = length-word_of [] y ∙ sym e in
    let makes : Makes (counting inputs) (pair_gate_list v x y) n _ (IsWord (counting inputs) (pair_op v (word_of [] x) (word_of [] y))) =
    makes-pair (counting inputs) v w n (word_of [] x) x (carries_any inputs n [] x) (word_of [] y) y (carries_any inputs n [] y) first second in
    word_length (counting inputs) _ _ _ (makes.runs gates refl tt tt tt).is ∙ pair_op_width v w (word_of [] x) (word_of [] y) first second
