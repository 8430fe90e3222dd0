-- The gate list of each kind makes the value of its operation, within its price.
use Rattle.std.proofs.Common.{◌≡◌, refl, sym, ap, subst, ◌∙◌, ℕ, ◌+◌, ◌*◌, ◌/◌, cond, List, [], ◌∷◌, map, length, drop, arith}
use Rattle.bits_core.specs.Word.{Word, number, flag, sign, copies, parity as odd_bits, bits_of_ℤ, extract as bits_from, sub as difference_of}
use Rattle.gates.specs.declared.signal.Signal.{Signal}
use Rattle.gates.specs.Build.{Build, done}
use Rattle.gates.proofs.Carrying.{Carrying, Makes, makes-done, makes_more}
use Rattle.gate_words.specs.GateLists.{choose, odd, top, subtracted}
use Rattle.gate_words.proofs.Words.{CarriesWord, IsWord, word_length, word-top}
use Rattle.gate_words.proofs.WordGateLists.{makes-odd}
use Rattle.gate_words.proofs.LongGateLists.{choose_bits, makes-choose}
use Rattle.gate_words.proofs.BitSums.{choose_is}
use Rattle.hw_model.specs.Types.{HwType, width, list_copies}
use Rattle.hw_model.specs.Kinds.{Kind, Predicate}
use Rattle.hw_model.specs.Kinds.Kind.{variadic, sub, division, shift, icmp, parity, extract, concat, replicate, mux, constant, aggregate_constant, on_array, on_struct, bitcast, wire, instance, output, register, async_firreg}
use Rattle.hw_model.specs.Value.{concat_words, is_high, of_one, of_two, of_three, compare, division_value, shift_value, op_value}
use Rattle.operation_gates.specs.OperationGateLists.{known_word, one_bit, part, concatenation, comparison, division_gate_list, shift_gate_list, gate_list_of_one, gate_list_of_two, gate_list_of_three, gate_list_of}
use Rattle.operation_gates.specs.Operands.{TakesWidths, IsShort}
use Rattle.operation_gates.specs.Prices.{first_width, price}
use Rattle.operation_gates.proofs.WordLists.CarriesWords.{no_words, one_more}
use Rattle.operation_gates.proofs.WordLists.{CarriesWords, word-known, word-joined, word-copies, word-part, makes_as, makes-one_bit}
use Rattle.operation_gates.proofs.Folding.{makes-variadic}
use Rattle.operation_gates.proofs.Comparisons.{makes-comparison}
use Rattle.operation_gates.proofs.Pairs.{makes-difference, makes-division, makes-shift}

high_is_sign : (u : Word) → is_high u ≡ sign u
high_is_sign [] = refl
high_is_sign (b ∷ u) = refl

module _ {inputs : ℕ} (c : Carrying inputs) where
  -- ---- operations of one, two or three operands

  makes_of_one : (f : List Signal → Build (List Signal)) (F : Word → Word) (n a h : ℕ) (us : List Word) (xs : List (List Signal)) → CarriesWords c n us xs
      → map length us ≡ a ∷ [] → ((u : Word) (x : List Signal) → CarriesWord c n u x → length u ≡ a → Makes c (f x) n h (IsWord c (F u)))
      → Makes c (gate_list_of_one f xs) n h (IsWord c (of_one F us))
  makes_of_one f F n a h _ _ no_words e make = absurd (omega (arith, ap length e))
  makes_of_one f F n a h _ _ (one_more u _ x _ hx no_words) e make = make u x hx (ap first_width e)
  makes_of_one f F n a h _ _ (one_more u _ x _ hx (one_more v us y ys hy hs)) e make = absurd (omega (arith, ap length e))

  makes_of_two : (f : List Signal → List Signal → Build (List Signal)) (F : Word → Word → Word) (n a b h : ℕ) (us : List Word) (xs : List (List Signal))
      → CarriesWords c n us xs → map length us ≡ a ∷ b ∷ []
      → ((u : Word) (x : List Signal) → CarriesWord c n u x → (v : Word) (y : List Signal) → CarriesWord c n v y → length u ≡ a → length v ≡ b
      → Makes c (f x y) n h (IsWord c (F u v)))
      → Makes c (gate_list_of_two f xs) n h (IsWord c (of_two F us))
  makes_of_two f F n a b h _ _ no_words e make = absurd (omega (arith, ap length e))
  makes_of_two f F n a b h _ _ (one_more u _ x _ hx no_words) e make = absurd (omega (arith, ap length e))
  makes_of_two f F n a b h _ _ (one_more u _ x _ hx (one_more v _ y _ hy no_words)) e make =
      make u x hx v y hy (ap first_width e) (ap (λ ns. first_width (drop 1 ns)) e)
  makes_of_two f F n a b h _ _ (one_more u _ x _ hx (one_more v _ y _ hy (one_more w us z zs hz hs))) e make = absurd (omega (arith, ap length e))

  makes_of_three : (f : List Signal → List Signal → List Signal → Build (List Signal)) (F : Word → Word → Word → Word) (n a b d h : ℕ) (us : List Word)
      (xs : List (List Signal)) → CarriesWords c n us xs → map length us ≡ a ∷ b ∷ d ∷ []
      → ((u : Word) (x : List Signal) → CarriesWord c n u x → (v : Word) (y : List Signal) → CarriesWord c n v y → (w : Word) (z : List Signal) → CarriesWord c n w z
      → length v ≡ b → length w ≡ d → Makes c (f x y z) n h (IsWord c (F u v w)))
      → Makes c (gate_list_of_three f xs) n h (IsWord c (of_three F us))
  makes_of_three f F n a b d h _ _ no_words e make = absurd (omega (arith, ap length e))
  makes_of_three f F n a b d h _ _ (one_more u _ x _ hx no_words) e make = absurd (omega (arith, ap length e))
  makes_of_three f F n a b d h _ _ (one_more u _ x _ hx (one_more v _ y _ hy no_words)) e make = absurd (omega (arith, ap length e))
  makes_of_three f F n a b d h _ _ (one_more u _ x _ hx (one_more v _ y _ hy (one_more w _ z _ hz no_words))) e make =
      make u x hx v y hy w z hz (ap (λ ns. first_width (drop 1 ns)) e) (ap (λ ns. first_width (drop 2 ns)) e)
  makes_of_three f F n a b d h _ _ (one_more u _ x _ hx (one_more v _ y _ hy (one_more w _ z _ hz (one_more t us s ss hs hr)))) e make =
      absurd (omega (arith, ap length e))

  -- ---- each kind

  makes-icmp : (p : Predicate) (n a : ℕ) (us : List Word) (xs : List (List Signal)) → CarriesWords c n us xs → map length us ≡ a ∷ a ∷ []
      → Makes c (gate_list_of_two (λ x y. one_bit (comparison p x y)) xs) n (12 * first_width (map length us) + 3) (IsWord c (of_two (λ u v. flag (compare p u v)) us))
  makes-icmp p n a us xs hs e =
      subst (λ k. Makes c (gate_list_of_two (λ x y. one_bit (comparison p x y)) xs) n (12 * k + 3) (IsWord c (of_two (λ u v. flag (compare p u v)) us))) (sym (ap first_width e))
      (makes_of_two (λ x y. one_bit (comparison p x y)) (λ u v. flag (compare p u v)) n a a (12 * a + 3) us xs hs e
      (λ u x hx v y hy eu ev. makes_more c _ n (4 * length u) (12 * a + 3) _ (omega arith)
      (makes-one_bit c (comparison p x y) n (4 * length u) (compare p u v) (makes-comparison c p n u x hx v y hy (eu ∙ sym ev)))))

  makes-parity : (n a : ℕ) (us : List Word) (xs : List (List Signal)) → CarriesWords c n us xs → map length us ≡ a ∷ []
      → Makes c (gate_list_of_one (λ x. one_bit (odd x)) xs) n (3 * first_width (map length us)) (IsWord c (of_one (λ u. flag (odd_bits u)) us))
  makes-parity n a us xs hs e =
      subst (λ k. Makes c (gate_list_of_one (λ x. one_bit (odd x)) xs) n (3 * k) (IsWord c (of_one (λ u. flag (odd_bits u)) us))) (sym (ap first_width e))
      (makes_of_one (λ x. one_bit (odd x)) (λ u. flag (odd_bits u)) n a (3 * a) us xs hs e
      (λ u x hx eu. makes_more c _ n (3 * length u) (3 * a) _ (omega arith)
      (makes-one_bit c (odd x) n (3 * length u) (odd_bits u) (makes-odd c n u x hx))))

  makes-extract : (low w n a : ℕ) (us : List Word) (xs : List (List Signal)) → CarriesWords c n us xs → map length us ≡ a ∷ []
      → Makes c (gate_list_of_one (λ x. done (part low w x)) xs) n 0 (IsWord c (of_one (bits_from low w) us))
  makes-extract low w n a us xs hs e =
      makes_of_one (λ x. done (part low w x)) (bits_from low w) n a 0 us xs hs e
      (λ u x hx eu. makes-done c (part low w x) n (IsWord c (bits_from low w u)) (word-part c n low w u x hx))

  makes-replicate : (w n a : ℕ) (us : List Word) (xs : List (List Signal)) → CarriesWords c n us xs → map length us ≡ a ∷ []
      → Makes c (gate_list_of_one (λ x. done (list_copies (w / length x) x)) xs) n 0 (IsWord c (of_one (λ u. copies (w / length u) u) us))
  makes-replicate w n a us xs hs e =
      makes_of_one (λ x. done (list_copies (w / length x) x)) (λ u. copies (w / length u) u) n a 0 us xs hs e
      (λ u x hx eu. makes-done c (list_copies (w / length x) x) n (IsWord c (copies (w / length u) u))
      (subst (λ l. CarriesWord c n (copies (w / l) u) (list_copies (w / length x) x)) (word_length c n u x hx) (word-copies c n (w / length x) u x hx)))

  makes-wire : (n a : ℕ) (us : List Word) (xs : List (List Signal)) → CarriesWords c n us xs → map length us ≡ a ∷ []
      → Makes c (gate_list_of_one done xs) n 0 (IsWord c (of_one (λ u. u) us))
  makes-wire n a us xs hs e = makes_of_one done (λ u. u) n a 0 us xs hs e (λ u x hx eu. makes-done c x n (IsWord c u) hx)

  makes-mux : (w n : ℕ) (us : List Word) (xs : List (List Signal)) → CarriesWords c n us xs → map length us ≡ 1 ∷ w ∷ w ∷ []
      → Makes c (gate_list_of_three (λ d x y. choose (top d) x y) xs) n (3 * w) (IsWord c (of_three (λ d u v. cond (is_high d) u v) us))
  makes-mux w n us xs hs e =
      makes_of_three (λ d x y. choose (top d) x y) (λ d u v. cond (is_high d) u v) n 1 w w (3 * w) us xs hs e
      (λ d z hz u x hx v y hy eu ev.
      makes_as c (choose (top z) x y) n (3 * length u) (3 * w) (choose_bits (sign d) u v) (cond (is_high d) u v) (omega arith)
      (choose_is (sign d) u v (eu ∙ sym ev) ∙ ap (λ b. cond b u v) (sym (high_is_sign d)))
      (makes-choose c n (top z) (sign d) (word-top c n d z hz) u x hx v y hy))

  -- ---- all kinds

  pub makes-gate_list : (n : ℕ) (kind : Kind) (ts : List HwType) (t : HwType) (k : ℕ) (us : List Word) (xs : List (List Signal)) → CarriesWords c n us xs
      → TakesWidths kind (width t) (map length us) → IsShort kind (width t)
      → Makes c (gate_list_of kind (width t) xs) n (price kind (width t) (map length us)) (IsWord c (op_value kind ts t k us))
  makes-gate_list n (variadic v) ts t k us xs hs takes short = makes-variadic c v (width t) n us xs hs takes
  makes-gate_list n sub ts t k us xs hs takes short =
      makes_of_two subtracted difference_of n (width t) (width t) (12 * width t) us xs hs takes
      (λ u x hx v y hy eu ev. makes-difference c (width t) n u x hx v y hy eu ev)
  makes-gate_list n (division d) ts t k us xs hs takes short =
      makes_of_two (division_gate_list d) (division_value d) n (width t) (width t) (16 * (width t * width t) + 64 * width t) us xs hs takes
      (λ u x hx v y hy eu ev. makes-division c d (width t) n u x hx v y hy eu ev)
  makes-gate_list n (shift s) ts t k us xs hs takes short =
      makes_of_two (shift_gate_list s) (λ u v. shift_value s u (number v)) n (width t) (width t) (32 * width t) us xs hs takes
      (λ u x hx v y hy eu ev. makes-shift c s (width t) short n u x hx v y hy eu ev)
  makes-gate_list n (icmp p) ts t k us xs hs takes short = makes-icmp p n takes.0 us xs hs takes.1
  makes-gate_list n parity ts t k us xs hs takes short = makes-parity n takes.0 us xs hs takes.1
  makes-gate_list n (extract low) ts t k us xs hs takes short = makes-extract low (width t) n takes.0 us xs hs takes.1
  makes-gate_list n concat ts t k us xs hs takes short = makes-done c (concatenation xs) n (IsWord c (concat_words us)) (word-joined c n us xs hs)
  makes-gate_list n replicate ts t k us xs hs takes short = makes-replicate (width t) n takes.0 us xs hs takes.1
  makes-gate_list n mux ts t k us xs hs takes short = makes-mux (width t) n us xs hs takes
  makes-gate_list n (constant z) ts t k us xs hs takes short =
      makes-done c (known_word (bits_of_ℤ (width t) z)) n (IsWord c (bits_of_ℤ (width t) z)) (word-known c n (bits_of_ℤ (width t) z))
  makes-gate_list n bitcast ts t k us xs hs takes short = makes-wire n takes.0 us xs hs takes.1
  makes-gate_list n wire ts t k us xs hs takes short = makes-wire n takes.0 us xs hs takes.1
  makes-gate_list n (aggregate_constant ls) ts t k us xs hs takes short = absurd takes
  makes-gate_list n (on_array a) ts t k us xs hs takes short = absurd takes
  makes-gate_list n (on_struct s) ts t k us xs hs takes short = absurd takes
  makes-gate_list n (instance i) ts t k us xs hs takes short = absurd takes
  makes-gate_list n output ts t k us xs hs takes short = absurd takes
  makes-gate_list n (register f r) ts t k us xs hs takes short = absurd takes
  makes-gate_list n async_firreg ts t k us xs hs takes short = absurd takes
