-- An element of an array by its leaves: a test for each index, and multiplexers for each leaf.
use Rattle.std.proofs.Common.{◌≡◌, ◌⊎◌, ℕ, zero, suc, ◌+◌, ◌-◌, ◌*◌, ◌%◌, ◌^◌, ◌<◌, ◌≤◌, Bool, true, false, cond, nat_lt, ◌==◌, List, [], ◌∷◌, ◌++◌, pos, length, map, take, drop, slice_get, Option}
use Rattle.std.proofs.Common.{Some, refl, sym, ap, ap₂, subst, ◌∙◌, inl, inr, arith, zero-add, add-zero, append-nil, length-append, suc-mul, zero-mul, add-mul, suc-add, append_assoc, mod-eq_of_lt}
use Rattle.std.proofs.Common.{◌≢◌, option_and_then}
use Rattle.std.proofs.lemmas.Bool.{lt-ltb, le-ltb, ltb-true, eq-eqb, ne_eqb}
use Rattle.std.proofs.lemmas.Bool.Decides.{eqb_tells}
use Rattle.bits_core.proofs.Numbers.{bits-number}
use Rattle.std.proofs.Math.Nat.{mul-add-mod_self_right}
use Rattle.std.proofs.lemmas.Nat.{div-mul-add, mod-mul-add}
use Rattle.std.proofs.lemmas.Option.{slice_get_within}
use Rattle.wiring.specs.Wiring.{In}
use Rattle.wiring.proofs.Lists.{slice_get_some, slice_get-append_left, slice_get-append_right}
use Rattle.wiring.proofs.Members.{position_of_In}
use Rattle.bits_core.specs.Word.{Word, number, bits, zeros, extract, same_word}
use Rattle.bits_core.specs.SameWord.{same_word_self, same_from_test}
use Rattle.bits_core.proofs.Storage.{bits-zero}
use Rattle.bits_core.specs.Fields.{number-bits-below}
use Rattle.hw_model.specs.Types.{HwType, width, leaves, list_copies}
use Rattle.hw_model.specs.Types.HwType.{int, array}
use Rattle.hw_model.specs.Kinds.Predicate.{eq}
use Rattle.hw_model.specs.Kinds.ArrayOp.{array_get, array_slice}
use Rattle.hw_model.specs.Kinds.Kind.{icmp, mux, constant, on_array}
use Rattle.hw_model.specs.Value.{concat_words, is_high, element, elements_from, slice_of, nth_type, op_value}
use Rattle.hw_model.specs.Design.{Ref, Op, result_type}
use Rattle.hw_model.specs.Design.Ref.{result}
use Rattle.hw_model.specs.Sound.{HasWidth, OpFits}
use Rattle.edit_laws.specs.Edit.{is_anchor, result_word}
use Rattle.aggregate_laws.specs.Leaves.{in_row, part, result_types, result_start}
use Rattle.aggregate_laws.specs.Lowered.{whole}
use Rattle.aggregate_laws.specs.Rules.{Splits, SplitsShape, StandsBefore, leaf_ref}
use Rattle.aggregate_laws.specs.OperationRules.{made_op, all_leaves, argument}
use Rattle.aggregate_laws.specs.Choices.{tests, test_at, choices, leaf_choices, choice_count, choice_end, choice_rule, element_leaf, get_rule, element_of, slice_rule}
use Rattle.aggregate_laws.proofs.Lists.{map-in_row}
use Rattle.aggregate_laws.proofs.Words.{widths, leaves_width, concat-append}
use Rattle.aggregate_laws.proofs.Bare.{type_listed}
use Rattle.aggregate_laws.proofs.Bodies.{plain_not_one, plain_no_register}
use Rattle.aggregate_laws.proofs.Registers.{single, joined_width}
use Rattle.aggregate_laws.proofs.Leafwise.{made_fits, leaf_among}
use Rattle.aggregate_laws.proofs.Joins.{rule_alike, rule_taken, plain_kind}
use Rattle.aggregate_laws.proofs.Structs.{two_operands, take_word, drop_word, drop_typed}
use Rattle.aggregate_laws.proofs.Muxes.{part_there, typed_size, one_rule, all_of_one}

-- ---- sizes

pub length-tests : (o : Op) (w : ℕ) (index : Ref) (start from n : ℕ) → length (tests o w index start from n) ≡ 2 * n
length-tests o w index start from zero = refl
length-tests o w index start from (suc n) = let rest : length (tests o w index (start + 2) (suc from) n) ≡ 2 * n = length-tests o w index (start + 2) (suc from) n in omega arith

pub length-choices : (o : Op) (t : HwType) (test element : ℕ → Ref) (before n : ℕ) → length (choices o t test element before n) ≡ n
length-choices o t test element before zero = refl
length-choices o t test element before (suc n) = ap suc (length-choices o t test element (suc before) n)

pub length-leaf_choices : (o : Op) (test : ℕ → Ref) (element : ℕ → ℕ → Ref) (sizes : ℕ → ℕ) (start l : ℕ) (ts : List HwType)
    → length (leaf_choices o test element sizes start l ts) ≡ choice_count sizes l (length ts)
length-leaf_choices o test element sizes start l [] = refl
length-leaf_choices o test element sizes start l (t ∷ ts) =
    let rest : length (leaf_choices o test element sizes (start + suc (sizes l)) (suc l) ts) ≡ choice_count sizes (suc l) (length ts) = length-leaf_choices o test element sizes (start + suc (sizes l)) (suc l) ts in
    let own : length (choices o t test (element l) start (sizes l)) ≡ sizes l = length-choices o t test (element l) start (sizes l) in
    omega (arith, length-append (choices o t test (element l) start (sizes l)) (leaf_choices o test element sizes (start + suc (sizes l)) (suc l) ts))

-- ---- what holds of each operation of a list, by its number in the block

-- `Each` holds of the operations of a list, the first having a number
abbrev pub EachOp : (ℕ → Op → Type 0) → ℕ → List Op → Type 0
EachOp P n [] = Unit {0}
EachOp P n (x ∷ xs) = P n x × EachOp P (suc n) xs

pub each_at : (P : ℕ → Op → Type 0) (n : ℕ) (xs : List Op) → EachOp P n xs → (i : ℕ) (x : Op) → slice_get xs i ≡ Some x → P (n + i) x
each_at P n [] all i x is = cc
each_at P n (y ∷ xs) (first, rest) zero x is =
    let same : y ≡ x = cc in
    subst (λ m. P m x) (sym (add-zero n)) (subst (P n) same first)
each_at P n (y ∷ xs) (first, rest) (suc i) x is =
    subst (λ m. P m x) (let e : suc n + i ≡ n + suc i = omega arith in e) (each_at P (suc n) xs rest i x is)

pub each_append : (P : ℕ → Op → Type 0) (n : ℕ) (xs ys : List Op) → EachOp P n xs → EachOp P (n + length xs) ys → EachOp P n (xs ++ ys)
each_append P n [] ys left right = subst (λ m. EachOp P m ys) (add-zero n) right
each_append P n (x ∷ xs) ys (first, rest) right =
    (first, each_append P (suc n) xs ys rest (subst (λ m. EachOp P m ys) (let e : n + suc (length xs) ≡ suc n + length xs = omega arith in e) right))

pub each_from : (P : ℕ → Op → Type 0) (n : ℕ) (xs : List Op) → ((i : ℕ) (x : Op) → slice_get xs i ≡ Some x → P (n + i) x) → EachOp P n xs
each_from P n [] all = tt
each_from P n (x ∷ xs) all = (
  subst (λ m. P m x) (add-zero n) (all 0 x refl),
  each_from P (suc n) xs (λ i y is. subst (λ m. P m y) (let e : n + suc i ≡ suc n + i = omega arith in e) (all (suc i) y is)),
)

pub each_left : (P : ℕ → Op → Type 0) (n : ℕ) (xs ys : List Op) → EachOp P n (xs ++ ys) → EachOp P n xs
each_left P n [] ys all = tt
each_left P n (x ∷ xs) ys (first, rest) = (first, each_left P (suc n) xs ys rest)

pub each_right : (P : ℕ → Op → Type 0) (n : ℕ) (xs ys : List Op) → EachOp P n (xs ++ ys) → EachOp P (n + length xs) ys
each_right P n [] ys all = subst (λ m. EachOp P m ys) (sym (add-zero n)) all
each_right P n (x ∷ xs) ys (first, rest) =
    subst (λ m. EachOp P m ys) (let e : suc n + length xs ≡ n + suc (length xs) = omega arith in e) (each_right P (suc n) xs ys rest)

-- ---- numbers

test_is : (x : Word) (w e : ℕ) → length x ≡ w → e < 2 ^ w → same_word x (bits w e) ≡ (number x == e)
test_is x w e size small = go (eqb_tells (number x) e)
  where
    go : ((number x == e ≡ true) × (number x ≡ e)) ⊎ ((number x == e ≡ false) × (number x ≢ e)) → same_word x (bits w e) ≡ (number x == e)
    go (inl (yes_so, same)) =
        ap (same_word x) (ap₂ bits (sym size) (sym same) ∙ bits-number x) ∙ same_word_self x ∙ sym yes_so
    go (inr (not_so, other)) = by_test (same_word x (bits w e)) refl
      where
        by_test : (b : Bool) → same_word x (bits w e) ≡ b → same_word x (bits w e) ≡ (number x == e)
        by_test false is = is ∙ sym not_so
        by_test true is = absurd (other (ap number (same_from_test x (bits w e) is) ∙ number-bits-below w e small))

-- ---- the words of the tests and of the choices

-- the words of operations from a position on
abbrev pub HoldsFrom : (Ref → Word) → ℕ → List Op → Type 0
HoldsFrom τ = EachOp (λ m x. (u : HwType) → result_type x 0 ≡ Some u → τ (result m 0) ≡ result_word τ x 0 (Some u))

module _ (τ : Ref → Word) where
  pub tests_hold : (o : Op) (w : ℕ) (index : Ref) (start from n : ℕ) → length (τ index) ≡ w → from + n ≤ 2 ^ w → HoldsFrom τ start (tests o w index start from n)
      → (i : ℕ) → i < n → is_high (τ (result (start + (2 * i + 1)) 0)) ≡ (number (τ index) == from + i)
  tests_hold o w index start from zero size small holds i below = absurd (omega arith)
  tests_hold o w index start from (suc n) size small (constant_holds, (compare_holds, rest)) zero below =
      ap (λ m. is_high (τ (result m 0))) (let e : start + (2 * 0 + 1) ≡ suc start = omega arith in e)
      ∙ ap is_high (compare_holds (int 1) refl)
      ∙ ap (λ y. same_word (τ index) y) (constant_holds (int w) refl)
      ∙ test_is (τ index) w from size (omega arith) ∙ ap (λ m. number (τ index) == m) (sym (add-zero from))
  tests_hold o w index start from (suc n) size small (constant_holds, (compare_holds, rest)) (suc i) below =
      ap (λ m. is_high (τ (result m 0))) (let e : start + (2 * suc i + 1) ≡ start + 2 + (2 * i + 1) = omega arith in e)
      ∙ tests_hold o w index (start + 2) (suc from) n size (omega arith) (subst (λ m. HoldsFrom τ m (tests o w index (start + 2) (suc from) n)) (let e : suc (suc start) ≡ start + 2 = omega arith in e) rest) i (omega arith)
      ∙ ap (λ m. number (τ index) == m) (let e : suc from + i ≡ from + suc i = omega arith in e)

  -- of n words the one whose test is 1, the later ones first
  abbrev picked : (ℕ → Bool) → (ℕ → Word) → ℕ → Word → Word
  picked hit word zero other = other
  picked hit word (suc n) other = picked hit word n (cond (hit n) (word n) other)

  choices_hold : (o : Op) (t : HwType) (test element : ℕ → Ref) (before n : ℕ) → HoldsFrom τ (suc before) (choices o t test element before n)
      → τ (result (before + n) 0) ≡ picked (λ e. is_high (τ (test e))) (λ e. τ (element e)) n (τ (result before 0))
  choices_hold o t test element before zero holds = ap (λ m. τ (result m 0)) (add-zero before)
  choices_hold o t test element before (suc n) (first, rest) =
      ap (λ m. τ (result m 0)) (let e : before + suc n ≡ suc before + n = omega arith in e)
      ∙ choices_hold o t test element (suc before) n rest
      ∙ ap (picked (λ e. is_high (τ (test e))) (λ e. τ (element e)) n) (first t refl)

-- where the tests tell one number, its word is picked, where it is below n
picked_is : (τ : Ref → Word) (hit : ℕ → Bool) (word : ℕ → Word) (i n : ℕ) (other : Word) → ((e : ℕ) → e < n → hit e ≡ (i == e)) → picked τ hit word n other ≡ cond (nat_lt i n) (word i) other
picked_is τ hit word i zero other tells = sym (ap (λ b. cond b (word i) other) (le-ltb i 0 (omega arith)))
picked_is τ hit word i (suc n) other tells =
    picked_is τ hit word i n (cond (hit n) (word n) other) (λ e below. tells e (omega arith))
    ∙ ap (λ b. cond (nat_lt i n) (word i) (cond b (word n) other)) (tells n (omega arith))
    ∙ go (grind arith)
  where
    go : (i < n) ⊎ ((i ≡ n) ⊎ (n < i)) → cond (nat_lt i n) (word i) (cond (i == n) (word n) other) ≡ cond (nat_lt i (suc n)) (word i) other
    go (inl below) = ap₂ (λ a b. cond a (word i) (cond b (word n) other)) (lt-ltb i n below) refl ∙ sym (ap (λ b. cond b (word i) other) (lt-ltb i (suc n) (omega arith)))
    go (inr (inl same)) =
        ap₂ (λ a b. cond a (word i) (cond b (word n) other)) (le-ltb i n (omega arith)) (eq-eqb i n same)
        ∙ ap word (sym same) ∙ sym (ap (λ b. cond b (word i) other) (lt-ltb i (suc n) (omega arith)))
    go (inr (inr past)) =
        ap₂ (λ a b. cond a (word i) (cond b (word n) other)) (le-ltb i n (omega arith)) (ne_eqb i n (λ same. absurd (omega arith)))
        ∙ sym (ap (λ b. cond b (word i) other) (le-ltb i (suc n) (omega arith)))

-- ---- the words of elements

zeros-add : (a b : ℕ) → zeros a ++ zeros b ≡ zeros (a + b)
zeros-add zero b = ap zeros (sym (zero-add b))
zeros-add (suc a) b = ap (λ (x : Word). false ∷ x) (zeros-add a b) ∙ ap zeros (sym (suc-add a b))

zero_words : (ts : List HwType) (g : ℕ → Word) (s : ℕ) → ((i : ℕ) (t : HwType) → slice_get ts i ≡ Some t → g (s + i) ≡ zeros (width t)) → concat_words (in_row g s (length ts)) ≡ zeros (widths ts)
zero_words [] g s each = refl
zero_words (t ∷ ts) g s each =
    ap₂ (λ x y. x ++ y) (ap g (sym (add-zero s)) ∙ each 0 t refl)
    (zero_words ts g (suc s) (λ i u is. ap g (let e : suc s + i ≡ s + suc i = omega arith in e) ∙ each (suc i) u is))
    ∙ zeros-add (width t) (widths ts)

pub rule_shift : {A : Type 0} (f : ℕ → A) (s k n : ℕ) → in_row (λ l. f (s + l)) k n ≡ in_row f (s + k) n
rule_shift f s k zero = refl
rule_shift f s k (suc n) = ap (λ xs. f (s + k) ∷ xs) (rule_shift f s (suc k) n ∙ ap (λ m. in_row f m n) (let e : s + suc k ≡ suc (s + k) = omega arith in e))

copies_split : {A : Type 0} (k m : ℕ) (xs : List A) → list_copies (k + m) xs ≡ list_copies k xs ++ list_copies m xs
copies_split zero m xs = ap (λ n. list_copies n xs) (zero-add m)
copies_split (suc k) m xs =
    ap (λ n. list_copies n xs) (suc-add k m) ∙ ap (λ ys. xs ++ ys) (copies_split k m xs) ∙ sym (append_assoc xs (list_copies k xs) (list_copies m xs))

pub copies_length : {A : Type 0} (k : ℕ) (xs : List A) → length (list_copies k xs) ≡ k * length xs
copies_length zero xs = sym (zero-mul (length xs))
copies_length (suc k) xs = let rest : length (list_copies k xs) ≡ k * length xs = copies_length k xs in omega (arith, length-append xs (list_copies k xs), suc-mul k (length xs))

module _ (type_of : Ref → Option HwType) (τ : Ref → Word) (wide : (r : Ref) → HasWidth (type_of r) (τ r)) (n : ℕ) (t : HwType) (rs : List Ref)
    (typed : map type_of rs ≡ map (λ (u : HwType). Some u) (list_copies n (leaves t))) where
  -- element i of an array whose values are these
  pub element_words : (i : ℕ) → i < n
      → extract (i * width t) (width t) (concat_words (map τ rs)) ≡ concat_words (in_row (λ l. τ (part rs ((n - suc i) * length (leaves t) + l))) 0 (length (leaves t)))
  element_words i below =
      ap (λ m. take (width t) (drop m (concat_words (map τ rs)))) from_top
      ∙ ap (take (width t)) (drop_word type_of τ wide rs (array (n - suc i) t) (list_copies (suc i) (leaves t)) cut)
      ∙ take_word type_of τ wide (drop (length (list_copies (n - suc i) (leaves t))) rs) t (list_copies i (leaves t))
      (drop_typed type_of rs (list_copies (n - suc i) (leaves t)) (list_copies (suc i) (leaves t)) cut)
      ∙ ap (λ m. concat_words (map τ (take (length (leaves t)) (drop m rs)))) (copies_length (n - suc i) (leaves t))
      ∙ ap concat_words (sym (rule_taken τ rs ((n - suc i) * length (leaves t)) (length (leaves t)) within)
      ∙ ap (λ m. in_row (λ k. τ (part rs k)) m (length (leaves t))) (sym (add-zero ((n - suc i) * length (leaves t))))
      ∙ sym (rule_shift (λ k. τ (part rs k)) ((n - suc i) * length (leaves t)) 0 (length (leaves t))))
    where
      parts_of_count : (n - suc i) + suc i ≡ n
      parts_of_count = omega arith

      cut : map type_of rs ≡ map (λ (u : HwType). Some u) (list_copies (n - suc i) (leaves t) ++ list_copies (suc i) (leaves t))
      cut = typed ∙ ap (λ m. map (λ (u : HwType). Some u) (list_copies m (leaves t))) (sym parts_of_count) ∙ ap (map (λ (u : HwType). Some u)) (copies_split (n - suc i) (suc i) (leaves t))

      size : length (concat_words (map τ rs)) ≡ n * width t
      size = joined_width type_of τ wide rs (list_copies n (leaves t)) typed ∙ leaves_width (array n t)

      from_top : length (concat_words (map τ rs)) - (i * width t + width t) ≡ (n - suc i) * width t
      from_top =
          let all : length (concat_words (map τ rs)) ≡ n * width t = size in
          let prefix : ((n - suc i) + suc i) * width t ≡ (n - suc i) * width t + suc i * width t = add-mul (n - suc i) (suc i) (width t) in
          let whole_is : ((n - suc i) + suc i) * width t ≡ n * width t = ap (λ m. m * width t) parts_of_count in
          let own : suc i * width t ≡ i * width t + width t = suc-mul i (width t) in
          omega arith

      within : (n - suc i) * length (leaves t) + length (leaves t) ≤ length rs
      within =
          let all : length rs ≡ n * length (leaves t) = typed_size type_of rs (list_copies n (leaves t)) typed ∙ copies_length n (leaves t) in
          let prefix : ((n - suc i) + suc i) * length (leaves t) ≡ (n - suc i) * length (leaves t) + suc i * length (leaves t) = add-mul (n - suc i) (suc i) (length (leaves t)) in
          let whole_is : ((n - suc i) + suc i) * length (leaves t) ≡ n * length (leaves t) = ap (λ m. m * length (leaves t)) parts_of_count in
          let own : suc i * length (leaves t) ≡ i * length (leaves t) + length (leaves t) = suc-mul i (length (leaves t)) in
          omega arith

  -- leaf by leaf the element that a number picks, or zero past the end
  picked_words : (i : ℕ) (g : ℕ → Word)
      → ((l : ℕ) (u : HwType) → slice_get (leaves t) l ≡ Some u → g l ≡ cond (nat_lt i n) (τ (part rs ((n - suc i) * length (leaves t) + l))) (zeros (width u)))
      → element (array n t) (concat_words (map τ rs)) i ≡ concat_words (in_row g 0 (length (leaves t)))
  picked_words i g is = go (nat_lt i n) refl is
    where
      go : (b : Bool) → nat_lt i n ≡ b
          → ((l : ℕ) (u : HwType) → slice_get (leaves t) l ≡ Some u → g l ≡ cond b (τ (part rs ((n - suc i) * length (leaves t) + l))) (zeros (width u)))
          → cond b (extract (i * width t) (width t) (concat_words (map τ rs))) (zeros (width t)) ≡ concat_words (in_row g 0 (length (leaves t)))
      go true below each =
          element_words i (ltb-true i n below)
          ∙ ap concat_words (rule_alike (λ l. τ (part rs ((n - suc i) * length (leaves t) + l))) g 0 (length (leaves t))
          (λ l past under. let there = slice_get_some (leaves t) l (omega arith) in sym (each l there.0 there.1)))
      go false past each =
          ap zeros (sym (leaves_width t)) ∙ sym (zero_words (leaves t) g 0 (λ l u at_l. ap g (zero-add l) ∙ each l u at_l))

-- ---- the words of all leaves

module _ (τ : Ref → Word) where
  leaf_choices_hold : (o : Op) (test : ℕ → Ref) (element : ℕ → ℕ → Ref) (sizes : ℕ → ℕ) (start l : ℕ) (ts : List HwType) → HoldsFrom τ start (leaf_choices o test element sizes start l ts)
      → (i : ℕ) (t : HwType) → slice_get ts i ≡ Some t
      → τ (result (start + choice_end sizes l i) 0) ≡ picked τ (λ e. is_high (τ (test e))) (λ e. τ (element (l + i) e)) (sizes (l + i)) (zeros (width t))
  leaf_choices_hold o test element sizes start l [] holds i t is = cc
  leaf_choices_hold o test element sizes start l (u ∷ ts) (zero_holds, rest) zero t is =
      let same : u ≡ t = cc in
      choices_hold τ o u test (element l) start (sizes l)
      (each_left (λ m x. (v : HwType) → result_type x 0 ≡ Some v → τ (result m 0) ≡ result_word τ x 0 (Some v)) (suc start) (choices o u test (element l) start (sizes l))
      (leaf_choices o test element sizes (start + suc (sizes l)) (suc l) ts) rest)
      ∙ ap (picked τ (λ e. is_high (τ (test e))) (λ e. τ (element l e)) (sizes l)) (zero_holds u refl ∙ bits-zero (width u) ∙ ap (λ v. zeros (width v)) same)
      ∙ ap (λ m. picked τ (λ e. is_high (τ (test e))) (λ e. τ (element m e)) (sizes m) (zeros (width t))) (sym (add-zero l))
  leaf_choices_hold o test element sizes start l (u ∷ ts) (zero_holds, rest) (suc i) t is =
      ap (λ m. τ (result m 0)) (let e : start + (suc (sizes l) + choice_end sizes (suc l) i) ≡ start + suc (sizes l) + choice_end sizes (suc l) i = omega arith in e)
      ∙ leaf_choices_hold o test element sizes (start + suc (sizes l)) (suc l) ts
      (subst (λ m. HoldsFrom τ m (leaf_choices o test element sizes (start + suc (sizes l)) (suc l) ts))
      (let e : suc start + length (choices o u test (element l) start (sizes l)) ≡ start + suc (sizes l) = omega (arith, length-choices o u test (element l) start (sizes l)) in e)
      (each_right (λ m x. (v : HwType) → result_type x 0 ≡ Some v → τ (result m 0) ≡ result_word τ x 0 (Some v)) (suc start) (choices o u test (element l) start (sizes l))
      (leaf_choices o test element sizes (start + suc (sizes l)) (suc l) ts) rest)) i t is
      ∙ ap (λ m. picked τ (λ e. is_high (τ (test e))) (λ e. τ (element m e)) (sizes m) (zeros (width t))) (let e : suc l + i ≡ l + suc i = omega arith in e)

-- ---- the shape of a block

unfoldable pub PlainOp : ℕ → Op → Type 0
PlainOp m x = is_anchor x ≡ false

pub tests_plain : (o : Op) (w : ℕ) (index : Ref) (m start from n : ℕ) → EachOp PlainOp m (tests o w index start from n)
unfolding PlainOp
tests_plain o w index m start from zero = tt
tests_plain o w index m start from (suc n) = (refl, (refl, tests_plain o w index (suc (suc m)) (start + 2) (suc from) n))

choices_plain : (o : Op) (t : HwType) (test element : ℕ → Ref) (m before n : ℕ) → EachOp PlainOp m (choices o t test element before n)
unfolding PlainOp
choices_plain o t test element m before zero = tt
choices_plain o t test element m before (suc n) = (refl, choices_plain o t test element (suc m) (suc before) n)

leaf_choices_plain : (o : Op) (test : ℕ → Ref) (element : ℕ → ℕ → Ref) (sizes : ℕ → ℕ) (m start l : ℕ) (ts : List HwType) → EachOp PlainOp m (leaf_choices o test element sizes start l ts)
unfolding PlainOp
leaf_choices_plain o test element sizes m start l [] = tt
leaf_choices_plain o test element sizes m start l (t ∷ ts) = (
  refl,
  each_append PlainOp (suc m) (choices o t test (element l) start (sizes l)) (leaf_choices o test element sizes (start + suc (sizes l)) (suc l) ts)
      (choices_plain o t test (element l) (suc m) start (sizes l))
      (leaf_choices_plain o test element sizes (suc m + length (choices o t test (element l) start (sizes l))) (start + suc (sizes l)) (suc l) ts),
)

choice_type : (o : Op) (t : HwType) (test element : ℕ → Ref) (before n i : ℕ) → i < n → option_and_then (λ (x : Op). result_type x 0) (slice_get (choices o t test element before n) i) ≡ Some t
choice_type o t test element before zero i below = absurd (omega arith)
choice_type o t test element before (suc n) zero below = refl
choice_type o t test element before (suc n) (suc i) below = choice_type o t test element (suc before) n i (omega arith)

-- the last operation of a leaf has its type
leaf_last : (o : Op) (test : ℕ → Ref) (element : ℕ → ℕ → Ref) (sizes : ℕ → ℕ) (start l : ℕ) (ts : List HwType) (i : ℕ) (u : HwType) → slice_get ts i ≡ Some u
    → option_and_then (λ (x : Op). result_type x 0) (slice_get (leaf_choices o test element sizes start l ts) (choice_end sizes l i)) ≡ Some u
leaf_last o test element sizes start l [] i u is = cc
leaf_last o test element sizes start l (t ∷ ts) zero u is = go (sizes l) refl
  where
    same : t ≡ u
    same = cc

    go : (k : ℕ) → sizes l ≡ k
        → option_and_then (λ (x : Op). result_type x 0) (slice_get (made_op o (constant (pos 0)) [] (t ∷ []) [] t
        ∷ (choices o t test (element l) start (sizes l) ++ leaf_choices o test element sizes (start + suc (sizes l)) (suc l) ts)) (sizes l)) ≡ Some u
    go zero size =
        ap (λ m. option_and_then (λ (x : Op). result_type x 0) (slice_get (made_op o (constant (pos 0)) [] (t ∷ []) [] t
        ∷ (choices o t test (element l) start (sizes l) ++ leaf_choices o test element sizes (start + suc (sizes l)) (suc l) ts)) m)) size
        ∙ ap Some same
    go (suc k) size =
        let there : k < length (choices o t test (element l) start (sizes l)) = omega (arith, length-choices o t test (element l) start (sizes l)) in
        ap (λ m. option_and_then (λ (x : Op). result_type x 0) (slice_get (made_op o (constant (pos 0)) [] (t ∷ []) [] t
        ∷ (choices o t test (element l) start (sizes l) ++ leaf_choices o test element sizes (start + suc (sizes l)) (suc l) ts)) m)) size
        ∙ ap (λ x. option_and_then (λ (y : Op). result_type y 0) x) (slice_get-append_left (choices o t test (element l) start (sizes l)) (leaf_choices o test element sizes (start + suc (sizes l)) (suc l) ts) k there)
        ∙ choice_type o t test (element l) start (sizes l) k (omega arith) ∙ ap Some same
leaf_last o test element sizes start l (t ∷ ts) (suc i) u is =
    ap (λ m. option_and_then (λ (x : Op). result_type x 0) (slice_get (leaf_choices o test element sizes start l (t ∷ ts)) m))
    (let e : suc (sizes l) + choice_end sizes (suc l) i ≡ suc (length (choices o t test (element l) start (sizes l)) + choice_end sizes (suc l) i) = omega (arith, length-choices o t test (element l) start (sizes l)) in e)
    ∙ ap (λ x. option_and_then (λ (y : Op). result_type y 0) x)
    (slice_get-append_right (choices o t test (element l) start (sizes l)) (leaf_choices o test element sizes (start + suc (sizes l)) (suc l) ts) (choice_end sizes (suc l) i))
    ∙ leaf_last o test element sizes (start + suc (sizes l)) (suc l) ts i u is

pub copies_at : {A : Type 0} (n k l : ℕ) (xs : List A) → k < n → l < length xs → slice_get (list_copies n xs) (k * length xs + l) ≡ slice_get xs l
copies_at zero k l xs below within = absurd (omega arith)
copies_at (suc n) zero l xs below within =
    ap (slice_get (list_copies (suc n) xs)) (let e : 0 * length xs + l ≡ l = omega (arith, zero-mul (length xs)) in e) ∙ slice_get-append_left xs (list_copies n xs) l within
copies_at (suc n) (suc k) l xs below within =
    ap (slice_get (list_copies (suc n) xs)) (let e : suc k * length xs + l ≡ length xs + (k * length xs + l) = omega (arith, suc-mul k (length xs)) in e)
    ∙ slice_get-append_right xs (list_copies n xs) (k * length xs + l) ∙ copies_at n k l xs (omega arith) within

-- which of the copies a leaf is in
pub copies_position : {A : Type 0} (n l : ℕ) (xs : List A) (x : A) → slice_get (list_copies n xs) l ≡ Some x → slice_get xs (l % length xs) ≡ Some x
copies_position zero l xs x is = cc
copies_position (suc n) l xs x is = go (grind arith) (copies_position n (l - length xs) xs x)
  where
    go : (l < length xs) ⊎ (length xs ≤ l) → (slice_get (list_copies n xs) (l - length xs) ≡ Some x → slice_get xs ((l - length xs) % length xs) ≡ Some x) → slice_get xs (l % length xs) ≡ Some x
    go (inl below) rest = ap (slice_get xs) (mod-eq_of_lt below) ∙ sym (slice_get-append_left xs (list_copies n xs) l below) ∙ is
    go (inr past) rest =
        let sum : l ≡ length xs + (l - length xs) = omega arith in
        let turned : l ≡ 1 * length xs + (l - length xs) = omega arith in
        ap (slice_get xs) (ap (λ k. k % length xs) turned ∙ mul-add-mod_self_right 1 (length xs) (l - length xs))
        ∙ rest (sym (slice_get-append_right xs (list_copies n xs) (l - length xs)) ∙ ap (slice_get (xs ++ list_copies n xs)) (sym sum) ∙ is)

test_moved : (i j n : ℕ) → nat_lt i (n - j) ≡ nat_lt (i + j) n
test_moved i j n = go (grind arith)
  where
    go : (i + j < n) ⊎ (n ≤ i + j) → nat_lt i (n - j) ≡ nat_lt (i + j) n
    go (inl below) = lt-ltb i (n - j) (omega arith) ∙ sym (lt-ltb (i + j) n below)
    go (inr past) = le-ltb i (n - j) (omega arith) ∙ sym (le-ltb (i + j) n past)

-- ---- types and operands

module _ (new_type : Ref → Option HwType) (parts : Ref → List Ref) (start : ℕ) (rs : List Ref) where
  -- the type of a result is that of the operation
  unfoldable pub OwnType : ℕ → Op → Type 0
  OwnType m x = new_type (result (start + m) 0) ≡ result_type x 0

  unfoldable pub GoodOp : ℕ → Op → Type 0
  GoodOp m x = OpFits new_type x × ((r : Ref) → In r x.operands → StandsBefore parts start rs m r)

  module _ (o : Op) (w : ℕ) (index y : Ref) (index_type : new_type index ≡ Some (int w)) (among : In y rs) (of_index : In index (parts y)) where
    pub tests_good : (m begin from n : ℕ) → begin ≡ start + m → EachOp OwnType m (tests o w index begin from n) → EachOp GoodOp m (tests o w index begin from n)
    unfolding OwnType GoodOp
    tests_good m begin from zero position own = tt
    tests_good m begin from (suc n) position (own_constant, (own_test, rest)) = (
      (made_fits new_type o (constant (pos from)) [] (int w ∷ []) [] (int w) refl, λ r never. absurd never),
      (
        (
          made_fits new_type o (icmp eq) (index ∷ result begin 0 ∷ []) (int w ∷ []) [] (int 1)
              (int w, ap₂ (λ a b. a ∷ b ∷ []) index_type (ap (λ k. new_type (result k 0)) position ∙ own_constant), refl),
          member,
        ),
        tests_good (suc (suc m)) (begin + 2) (suc from) n (let e : begin + 2 ≡ start + suc (suc m) = omega arith in e) rest,
      ),
    )
      where
        member : (r : Ref) → In r (index ∷ result begin 0 ∷ []) → StandsBefore parts start rs (suc m) r
        member r (inl same) = inl (y, among, subst (λ x. In x (parts y)) (sym same) of_index)
        member r (inr (inl same)) = inr (m, omega arith, same ∙ ap (λ k. result k 0) position)
        member r (inr (inr never)) = absurd never

    pub tests_typed : (m begin from n : ℕ) → begin ≡ start + m → EachOp OwnType m (tests o w index begin from n) → (i : ℕ) → i < n → new_type (result (begin + (2 * i + 1)) 0) ≡ Some (int 1)
    unfolding OwnType
    tests_typed m begin from zero position own i below = absurd (omega arith)
    tests_typed m begin from (suc n) position (own_constant, (own_test, rest)) zero below =
        ap (λ k. new_type (result k 0)) (let e : begin + (2 * 0 + 1) ≡ start + suc m = omega arith in e) ∙ own_test
    tests_typed m begin from (suc n) position (own_constant, (own_test, rest)) (suc i) below =
        ap (λ k. new_type (result k 0)) (let e : begin + (2 * suc i + 1) ≡ begin + 2 + (2 * i + 1) = omega arith in e)
        ∙ tests_typed (suc (suc m)) (begin + 2) (suc from) n (let e : begin + 2 ≡ start + suc (suc m) = omega arith in e) rest i (omega arith)

  module _ (o : Op) (test : ℕ → Ref) (n : ℕ) (test_type : (e : ℕ) → e < n → new_type (test e) ≡ Some (int 1))
      (test_stands : (e m : ℕ) → e < n → 2 * n ≤ m → StandsBefore parts start rs m (test e)) where
    choices_good : (t : HwType) (element : ℕ → Ref) (m before k : ℕ) → k ≤ n → 2 * n ≤ m → before ≡ start + m → new_type (result before 0) ≡ Some t
        → ((e : ℕ) → e < k → (new_type (element e) ≡ Some t) × ((x : Ref) × In x rs × In (element e) (parts x)))
        → EachOp OwnType (suc m) (choices o t test element before k) → EachOp GoodOp (suc m) (choices o t test element before k)
    unfolding OwnType GoodOp
    choices_good t element m before zero few after position typed elements own = tt
    choices_good t element m before (suc k) few after position typed elements (own_first, rest) = (
      (
        made_fits new_type o mux (test k ∷ element k ∷ result before 0 ∷ []) (t ∷ []) [] t
            (ap₂ (λ a b. a ∷ b ∷ new_type (result before 0) ∷ []) (test_type k (omega arith)) (elements k (omega arith)).0 ∙ ap (λ c. Some (int 1) ∷ Some t ∷ c ∷ []) typed),
        member,
      ),
      choices_good t element (suc m) (suc before) k (omega arith) (omega arith) (let e : suc before ≡ start + suc m = omega arith in e)
          (ap (λ j. new_type (result j 0)) (let e : suc before ≡ start + suc m = omega arith in e) ∙ own_first) (λ e below. elements e (omega arith)) rest,
    )
      where
        member : (r : Ref) → In r (test k ∷ element k ∷ result before 0 ∷ []) → StandsBefore parts start rs (suc m) r
        member r (inl same) = subst (StandsBefore parts start rs (suc m)) (sym same) (test_stands k (suc m) (omega arith) (omega arith))
        member r (inr (inl same)) =
            let found = (elements k (omega arith)).1 in
            inl (found.0, found.1, subst (λ x. In x (parts found.0)) (sym same) found.2)
        member r (inr (inr (inl same))) = inr (m, omega arith, same ∙ ap (λ j. result j 0) position)
        member r (inr (inr (inr never))) = absurd never

    leaf_choices_good : (element : ℕ → ℕ → Ref) (sizes : ℕ → ℕ) (m begin l : ℕ) (ts : List HwType) → ((k : ℕ) → sizes k ≤ n) → 2 * n ≤ m → begin ≡ start + m
        → ((i e : ℕ) (t : HwType) → slice_get ts i ≡ Some t → e < sizes (l + i) → (new_type (element (l + i) e) ≡ Some t) × ((x : Ref) × In x rs × In (element (l + i) e) (parts x)))
        → EachOp OwnType m (leaf_choices o test element sizes begin l ts) → EachOp GoodOp m (leaf_choices o test element sizes begin l ts)
    unfolding OwnType GoodOp choices_good
    leaf_choices_good element sizes m begin l [] few after position elements own = tt
    leaf_choices_good element sizes m begin l (t ∷ ts) few after position elements (own_zero, rest) = (
      (made_fits new_type o (constant (pos 0)) [] (t ∷ []) [] t refl, λ r never. absurd never),
      each_append GoodOp (suc m) (choices o t test (element l) begin (sizes l)) (leaf_choices o test element sizes (begin + suc (sizes l)) (suc l) ts)
          (choices_good t (element l) m begin (sizes l) (few l) after position (ap (λ j. new_type (result j 0)) position ∙ own_zero)
          (λ e below. subst (λ j. (new_type (element j e) ≡ Some t) × ((x : Ref) × In x rs × In (element j e) (parts x))) (add-zero l)
          (elements 0 e t refl (subst (λ j. e < sizes j) (sym (add-zero l)) below)))
          (each_left OwnType (suc m) (choices o t test (element l) begin (sizes l)) (leaf_choices o test element sizes (begin + suc (sizes l)) (suc l) ts) rest))
          (leaf_choices_good element sizes (suc m + length (choices o t test (element l) begin (sizes l))) (begin + suc (sizes l)) (suc l) ts few
          (let e : 2 * n ≤ suc m + length (choices o t test (element l) begin (sizes l)) = omega arith in e)
          (let e : begin + suc (sizes l) ≡ start + (suc m + length (choices o t test (element l) begin (sizes l))) = omega (arith, length-choices o t test (element l) begin (sizes l)) in e)
          (λ i e u at_u below. subst (λ j. (new_type (element j e) ≡ Some u) × ((x : Ref) × In x rs × In (element j e) (parts x))) (let q : l + suc i ≡ suc l + i = omega arith in q)
          (elements (suc i) e u at_u (subst (λ j. e < sizes j) (let q : suc l + i ≡ l + suc i = omega arith in q) below)))
          (each_right OwnType (suc m) (choices o t test (element l) begin (sizes l)) (leaf_choices o test element sizes (begin + suc (sizes l)) (suc l) ts) rest)),
    )

-- ---- operations that an index lets choose

-- what such an operation owes: for each leaf the values have its type and are of the array, and the words that are picked are
-- those of the leaves
pub record ChoiceWell (o : Op) (array_ref index : Ref) (sizes : ℕ → ℕ) (pick : List Ref → ℕ → ℕ → Ref) (stand : Ref → List Ref) (t : HwType) (new_type : Ref → Option HwType) : Type 0 where
  pub values : (l e : ℕ) (u : HwType) → slice_get (leaves t) l ≡ Some u → e < sizes l → (new_type (pick (stand array_ref) l e) ≡ Some u) × In (pick (stand array_ref) l e) (stand array_ref)
  pub words : (τ : Ref → Word) → ((r : Ref) → HasWidth (new_type r) (τ r)) → (g : ℕ → Word)
      → ((l : ℕ) (u : HwType) → slice_get (leaves t) l ≡ Some u
      → g l ≡ cond (nat_lt (number (τ (part (stand index) 0))) (sizes l)) (τ (pick (stand array_ref) l (number (τ (part (stand index) 0))))) (zeros (width u)))
      → whole stand τ index ≡ τ (part (stand index) 0)
      → result_word (whole stand τ) o 0 (Some t) ≡ concat_words (in_row g 0 (length (leaves t)))

module _ (o : Op) (n w : ℕ) (sizes : ℕ → ℕ) (pick : List Ref → ℕ → ℕ → Ref) (old_type : Ref → Option HwType) (stand : Ref → List Ref) (t : HwType) (plain_o : is_anchor o ≡ false) (one : result_types o ≡ t ∷ [])
    (enough : n ≤ 2 ^ w) (few : (l : ℕ) → sizes l ≤ n) (array_ref index_ref : Ref) (operands_are : o.operands ≡ array_ref ∷ index_ref ∷ []) (index_typed : old_type index_ref ≡ Some (int w)) where
  abbrev index_of : List (List Ref) → Ref
  index_of args = part (argument 1 args) 0

  abbrev first_part : List (List Ref) → ℕ → List Op
  first_part args start = tests o w (index_of args) start 0 n

  abbrev second_part : List (List Ref) → ℕ → List Op
  second_part args start = leaf_choices o (test_at start) (pick (argument 0 args)) sizes (start + 2 * n) 0 (all_leaves o)

  choice_size : (args : List (List Ref)) (start : ℕ) → length (first_part args start ++ second_part args start) ≡ 2 * n + choice_count sizes 0 (length (all_leaves o))
  choice_size args start =
      length-append (first_part args start) (second_part args start)
      ∙ ap₂ (λ a b. a + b) (length-tests o w (index_of args) start 0 n) (length-leaf_choices o (test_at start) (pick (argument 0 args)) sizes (start + 2 * n) 0 (all_leaves o))

  choice_member : (args : List (List Ref)) (start : ℕ) (x : Op) → In x (first_part args start ++ second_part args start) → is_anchor x ≡ false
  unfolding PlainOp
  choice_member args start x here =
      let position = position_of_In x (first_part args start ++ second_part args start) here in
      each_at PlainOp 0 (first_part args start ++ second_part args start)
      (each_append PlainOp 0 (first_part args start) (second_part args start) (tests_plain o w (index_of args) 0 start 0 n)
      (leaf_choices_plain o (test_at start) (pick (argument 0 args)) sizes (0 + length (first_part args start)) (start + 2 * n) 0 (all_leaves o))) position.0 x position.1

  choice_leaf : (args : List (List Ref)) (start l : ℕ) (u : HwType) → slice_get (all_leaves o) l ≡ Some u
      → option_and_then (λ (x : Op). result_type x 0) (slice_get (first_part args start ++ second_part args start) (2 * n + choice_end sizes 0 l)) ≡ Some u
  choice_leaf args start l u at_u =
      ap (λ m. option_and_then (λ (x : Op). result_type x 0) (slice_get (first_part args start ++ second_part args start) (m + choice_end sizes 0 l))) (sym (length-tests o w (index_of args) start 0 n))
      ∙ ap (λ x. option_and_then (λ (y : Op). result_type y 0) x) (slice_get-append_right (first_part args start) (second_part args start) (choice_end sizes 0 l))
      ∙ leaf_last o (test_at start) (pick (argument 0 args)) sizes (start + 2 * n) 0 (all_leaves o) l u at_u

  choice_shape : SplitsShape (choice_rule o n w sizes pick) stand o
  choice_shape = record {
    size = λ start. choice_size (map stand o.operands) start;
    anchor = λ anchored start. let clash : true ≡ false = sym anchored ∙ plain_o in cc;
    plain = λ plain start x here. choice_member (map stand o.operands) start x here;
    register_has_one = λ register k. let clash : true ≡ false = sym register ∙ plain_no_register o plain_o in cc;
    register_position = λ register i. let clash : true ≡ false = sym register ∙ plain_no_register o plain_o in cc;
    leaf_type = λ plain start k i v u typed at_u. choice_leaf (map stand o.operands) start (result_start o k + i) u (leaf_among o k i v u typed at_u);
  }

  module _ (new_type : Ref → Option HwType) (typed : (r : Ref) (u : HwType) → old_type r ≡ Some u → map new_type (stand r) ≡ map (λ (v : HwType). Some v) (leaves u))
      (wells : ChoiceWell o array_ref index_ref sizes pick stand t new_type) (start : ℕ) where
    abbrev index : Ref
    index = part (stand index_ref) 0

    abbrev args : List (List Ref)
    args = stand array_ref ∷ stand index_ref ∷ []

    index_there : (In index (stand index_ref)) × (new_type index ≡ Some (int w))
    index_there = part_there new_type (stand index_ref) (int w ∷ []) 0 (int w) (typed index_ref (int w) index_typed) refl

    member_array : In array_ref o.operands
    member_array = subst (In array_ref) (sym operands_are) (inl refl)

    member_index : In index_ref o.operands
    member_index = subst (In index_ref) (sym operands_are) (inr (inl refl))

    value_there : (l e : ℕ) (u : HwType) → slice_get (all_leaves o) l ≡ Some u → e < sizes l
        → (new_type (pick (stand array_ref) l e) ≡ Some u) × ((x : Ref) × In x o.operands × In (pick (stand array_ref) l e) (stand x))
    value_there l e u at_u below =
        let found = wells.values l e u (ap (λ ts. slice_get ts l) (sym (all_of_one o t one)) ∙ at_u) below in
        (found.0, (array_ref, member_array, found.1))

    test_before : (e m : ℕ) → e < n → 2 * n ≤ m → StandsBefore stand start o.operands m (test_at start e)
    test_before e m below after = inr (2 * e + 1, omega arith, refl)

    choice_good : EachOp (OwnType new_type stand start o.operands) 0 (first_part args start ++ second_part args start)
        → EachOp (GoodOp new_type stand start o.operands) 0 (first_part args start ++ second_part args start)
    choice_good own =
        each_append (GoodOp new_type stand start o.operands) 0 (first_part args start) (second_part args start)
        (tests_good new_type stand start o.operands o w index index_ref index_there.1 member_index index_there.0 0 start 0 n (sym (add-zero start)) own_first)
        (leaf_choices_good new_type stand start o.operands o (test_at start) n
        (λ e below. tests_typed new_type stand start o.operands o w index index_ref index_there.1 member_index index_there.0 0 start 0 n (sym (add-zero start)) own_first e below)
        test_before (pick (stand array_ref)) sizes (0 + length (first_part args start)) (start + 2 * n) 0 (all_leaves o) few
        (omega (arith, length-tests o w index start 0 n)) (let e : start + 2 * n ≡ start + (0 + length (first_part args start)) = omega (arith, length-tests o w index start 0 n) in e)
        (λ i e u at_u below. subst (λ j. (new_type (pick (stand array_ref) j e) ≡ Some u) × ((x : Ref) × In x o.operands × In (pick (stand array_ref) j e) (stand x))) (sym (zero-add i))
        (value_there i e u at_u (subst (λ j. e < sizes j) (zero-add i) below)))
        (each_right (OwnType new_type stand start o.operands) 0 (first_part args start) (second_part args start) own))
      where
        own_first : EachOp (OwnType new_type stand start o.operands) 0 (first_part args start)
        own_first = each_left (OwnType new_type stand start o.operands) 0 (first_part args start) (second_part args start) own

    choice_words : (τ : Ref → Word) → ((r : Ref) → HasWidth (new_type r) (τ r)) → HoldsFrom τ start (first_part args start ++ second_part args start)
        → result_word (whole stand τ) o 0 (Some t) ≡ concat_words (map τ (in_row (leaf_ref (choice_rule o n w sizes pick) start o) 0 (length (leaves t))))
    choice_words τ wide holds =
        wells.words τ wide (λ l. τ (leaf_ref (choice_rule o n w sizes pick) start o l)) leaf_is index_word
        ∙ ap concat_words (sym (map-in_row τ (leaf_ref (choice_rule o n w sizes pick) start o) 0 (length (leaves t))))
      where
        index_word : whole stand τ index_ref ≡ τ index
        index_word =
            let one_part = single new_type (stand index_ref) (Some (int w)) (typed index_ref (int w) index_typed) in
            ap (λ rs. concat_words (map τ rs)) one_part.1 ∙ append-nil (τ one_part.0) ∙ ap (λ rs. τ (part rs 0)) (sym one_part.1)

        index_size : length (τ index) ≡ w
        index_size = subst (λ x. HasWidth x (τ index)) index_there.1 (wide index)

        tests_held : HoldsFrom τ start (first_part args start)
        tests_held = each_left (λ m x. (v : HwType) → result_type x 0 ≡ Some v → τ (result m 0) ≡ result_word τ x 0 (Some v)) start (first_part args start) (second_part args start) holds

        choices_held : HoldsFrom τ (start + 2 * n) (second_part args start)
        choices_held =
            subst (λ m. HoldsFrom τ m (second_part args start)) (ap (λ k. start + k) (length-tests o w index start 0 n))
            (each_right (λ m x. (v : HwType) → result_type x 0 ≡ Some v → τ (result m 0) ≡ result_word τ x 0 (Some v)) start (first_part args start) (second_part args start) holds)

        leaf_is : (l : ℕ) (u : HwType) → slice_get (leaves t) l ≡ Some u
            → τ (leaf_ref (choice_rule o n w sizes pick) start o l) ≡ cond (nat_lt (number (τ index)) (sizes l)) (τ (pick (stand array_ref) l (number (τ index)))) (zeros (width u))
        leaf_is l u at_u =
            let small : sizes l ≤ n = few l in
            ap (λ b. τ (cond b (result start l) (result (start + (2 * n + choice_end sizes 0 l)) 0))) (plain_not_one o plain_o)
            ∙ ap (λ m. τ (result m 0)) (let e : start + (2 * n + choice_end sizes 0 l) ≡ start + 2 * n + choice_end sizes 0 l = omega arith in e)
            ∙ leaf_choices_hold τ o (test_at start) (pick (stand array_ref)) sizes (start + 2 * n) 0 (all_leaves o) choices_held l u (ap (λ ts. slice_get ts l) (all_of_one o t one) ∙ at_u)
            ∙ ap (λ m. picked τ (λ e. is_high (τ (test_at start e))) (λ e. τ (pick (stand array_ref) m e)) (sizes m) (zeros (width u))) (zero-add l)
            ∙ picked_is τ (λ e. is_high (τ (test_at start e))) (λ e. τ (pick (stand array_ref) l e)) (number (τ index)) (sizes l) (zeros (width u))
            (λ e below. tests_hold τ o w index start 0 n index_size (omega arith) tests_held e (omega arith) ∙ ap (λ m. number (τ index) == m) (zero-add e))

  pub choice_splits : ((new_type : Ref → Option HwType) → ((r : Ref) (u : HwType) → old_type r ≡ Some u → map new_type (stand r) ≡ map (λ (v : HwType). Some v) (leaves u))
      → ChoiceWell o array_ref index_ref sizes pick stand t new_type) → Splits (choice_rule o n w sizes pick) old_type stand o
  unfolding OwnType GoodOp
  choice_splits well = record {
    shape = choice_shape;
    has_first = λ plain start i x at_i. (t, type_listed o 0 ∙ ap (λ ts. slice_get ts 0) one);
    well = λ plain new_type start stands.
        let good = choice_good new_type stands.typed (well new_type stands.typed) start
        (subst (λ given_args. EachOp (OwnType new_type stand start o.operands) 0 (first_part given_args start ++ second_part given_args start)) arguments
        (each_from (OwnType new_type stand start o.operands) 0 (first_part (map stand o.operands) start ++ second_part (map stand o.operands) start)
        (λ i x at_i. ap (λ m. new_type (result (start + m) 0)) (zero-add i) ∙ stands.own i x at_i))) in
        record {
          fits = λ i x at_i. (good_at new_type start good i x at_i).0;
          operands = λ i x r at_i here. (good_at new_type start good i x at_i).1 r here;
          words = λ τ wide holds.
              one_rule o t (λ k u. result_word (whole stand τ) o k (Some u) ≡ concat_words (map τ (in_row (leaf_ref (choice_rule o n w sizes pick) start o) (result_start o k) (length (leaves u))))) one
              (choice_words new_type stands.typed (well new_type stands.typed) start τ wide
              (subst (λ given_args. HoldsFrom τ start (first_part given_args start ++ second_part given_args start)) arguments
              (each_from (λ m x. (v : HwType) → result_type x 0 ≡ Some v → τ (result m 0) ≡ result_word τ x 0 (Some v)) start (first_part (map stand o.operands) start ++ second_part (map stand o.operands) start)
              (λ i x at_i v typed_v. holds i x v at_i typed_v))));
        };
  }
    where
      arguments : map stand o.operands ≡ stand array_ref ∷ stand index_ref ∷ []
      arguments = ap (map stand) operands_are

      good_at : (new_type : Ref → Option HwType) (start : ℕ) → EachOp (GoodOp new_type stand start o.operands) 0 (first_part (stand array_ref ∷ stand index_ref ∷ []) start ++ second_part (stand array_ref ∷ stand index_ref ∷ []) start)
          → (i : ℕ) (x : Op) → slice_get (first_part (map stand o.operands) start ++ second_part (map stand o.operands) start) i ≡ Some x
          → OpFits new_type x × ((r : Ref) → In r x.operands → StandsBefore stand start o.operands i r)
      good_at new_type start good i x at_i =
          subst (λ m. GoodOp new_type stand start o.operands m x) (zero-add i)
          (each_at (GoodOp new_type stand start o.operands) 0 (first_part (stand array_ref ∷ stand index_ref ∷ []) start ++ second_part (stand array_ref ∷ stand index_ref ∷ []) start) good i x
          (ap (λ given_args. slice_get (first_part given_args start ++ second_part given_args start) i) (sym arguments) ∙ at_i))

-- ---- `hw.array_get`

-- leaf l of element e
element_typed : (new_type : Ref → Option HwType) (rs : List Ref) (n : ℕ) (e : HwType) → map new_type rs ≡ map (λ (v : HwType). Some v) (list_copies n (leaves e)) → (l k : ℕ) (u : HwType)
    → slice_get (leaves e) l ≡ Some u → k < n → (new_type (element_leaf n (length (leaves e)) rs l k) ≡ Some u) × In (element_leaf n (length (leaves e)) rs l k) rs
element_typed new_type rs n e typed l k u at_u below =
    let within : l < length (leaves e) = slice_get_within (leaves e) l u at_u in
    let found = part_there new_type rs (list_copies n (leaves e)) ((n - suc k) * length (leaves e) + l) u typed (copies_at n (n - suc k) l (leaves e) (omega arith) within ∙ at_u) in
    (found.1, found.0)

pub get_splits : (o : Op) (n w : ℕ) (old_type : Ref → Option HwType) (stand : Ref → List Ref) (t : HwType) → o.kind ≡ on_array array_get → result_types o ≡ t ∷ []
    → map old_type o.operands ≡ Some (array n t) ∷ Some (int w) ∷ [] → nth_type o.types 0 ≡ array n t → n ≤ 2 ^ w → Splits (get_rule o n w) old_type stand o
get_splits o n w old_type stand t is one given written enough =
    choice_splits o n w (λ l. n) (element_leaf n (length (all_leaves o))) old_type stand t (plain_kind o (on_array array_get) is refl) one enough (λ l. omega arith) operands.0 operands.1 operands.2 operands.4
    (λ new_type typed.
    subst (λ m. ChoiceWell o operands.0 operands.1 (λ l. n) (element_leaf n m) stand t new_type) (sym (ap length (all_of_one o t one)))
    (record {
      values = element_typed new_type (stand operands.0) n t (typed operands.0 (array n t) operands.3);
      words = λ τ wide g is_g index_word.
          ap₂ (λ k rs. op_value k o.types t 0 (map (whole stand τ) rs)) is operands.2
          ∙ ap (λ u. element u (whole stand τ operands.0) (number (whole stand τ operands.1))) written
          ∙ ap (λ x. element (array n t) (whole stand τ operands.0) (number x)) index_word
          ∙ picked_words new_type τ wide n t (stand operands.0) (typed operands.0 (array n t) operands.3) (number (τ (part (stand operands.1) 0))) g is_g;
    }))
  where
    operands : (a : Ref) × (i : Ref) × (o.operands ≡ a ∷ i ∷ []) × (old_type a ≡ Some (array n t)) × (old_type i ≡ Some (int w))
    operands = two_operands old_type o.operands (Some (array n t)) (Some (int w)) given

-- ---- `hw.array_slice`

-- of which element a leaf is, and which leaf of it
pub leaf_number : (m k a l : ℕ) → a < k → l < m → (element_of k m (a * m + l) ≡ k - suc a) × ((a * m + l) % m ≡ l)
leaf_number m k a l few below = (ap (λ x. k - suc x) (div-mul-add a m l below), mod-mul-add a m l below)

rule_cut : {A : Type 0} (f : ℕ → A) (s n m : ℕ) → in_row f s (n + m) ≡ in_row f s n ++ in_row f (s + n) m
rule_cut f s zero m = ap (λ k. in_row f s k) (zero-add m) ∙ ap (λ k. in_row f k m) (sym (add-zero s))
rule_cut f s (suc n) m =
    ap (λ k. in_row f s k) (suc-add n m) ∙ ap (λ xs. f s ∷ xs) (rule_cut f (suc s) n m)
    ∙ ap (λ k. f s ∷ (in_row f (suc s) n ++ in_row f k m)) (let e : suc s + n ≡ s + suc n = omega arith in e)

-- words below a number joined, the highest first
abbrev pub stacked : (ℕ → Word) → ℕ → Word
stacked h zero = []
stacked h (suc j) = h j ++ stacked h j

-- the same where each is given by its leaves
pub stacked_rules : (h : ℕ → Word) (m k : ℕ) (g : ℕ → Word) → ((j : ℕ) → j < k → h j ≡ concat_words (in_row g ((k - suc j) * m) m)) → stacked h k ≡ concat_words (in_row g 0 (k * m))
stacked_rules h m k g each = go k 0 (let q : 0 + k * m ≡ k * m = omega arith in q) (omega arith)
  where
    go : (j s : ℕ) → s + j * m ≡ k * m → j ≤ k → stacked h j ≡ concat_words (in_row g s (j * m))
    go zero s position few = ap (λ x. concat_words (in_row g s x)) (sym (zero-mul m))
    go (suc j) s position few =
        let more : suc j * m ≡ j * m + m = suc-mul j m in
        let prefix : ((k - suc j) + suc j) * m ≡ (k - suc j) * m + suc j * m = add-mul (k - suc j) (suc j) m in
        let whole_is : ((k - suc j) + suc j) * m ≡ k * m = ap (λ x. x * m) (let q : (k - suc j) + suc j ≡ k = omega arith in q) in
        let begins : (k - suc j) * m ≡ s = omega arith in
        ap₂ (λ x y. x ++ y) (each j (omega arith) ∙ ap (λ x. concat_words (in_row g x m)) begins)
        (go j (s + m) (omega arith) (omega arith))
        ∙ sym (concat-append (in_row g s m) (in_row g (s + m) (j * m)))
        ∙ ap concat_words (sym (rule_cut g s m (j * m)))
        ∙ ap (λ x. concat_words (in_row g s x)) (let q : m + j * m ≡ suc j * m = omega arith in q)

elements_stacked : (t : HwType) (a : Word) (i k : ℕ) → elements_from t a i k ≡ stacked (λ j. element t a (i + j)) k
elements_stacked t a i zero = refl
elements_stacked t a i (suc k) = ap (λ x. element t a (i + k) ++ x) (elements_stacked t a i k)

pub slice_splits : (o : Op) (n k w : ℕ) (old_type : Ref → Option HwType) (stand : Ref → List Ref) (e t : HwType) → o.kind ≡ on_array array_slice → result_types o ≡ t ∷ [] → t ≡ array k e
    → map old_type o.operands ≡ Some (array n e) ∷ Some (int w) ∷ [] → nth_type o.types 0 ≡ array n e → n ≤ 2 ^ w → Splits (slice_rule o n k (length (leaves e)) w) old_type stand o
slice_splits o n k w old_type stand e t is one t_is given written enough =
    choice_splits o n w (λ l. n - element_of k (length (leaves e)) l) (λ rs l j. element_leaf n (length (leaves e)) rs (l % length (leaves e)) (j + element_of k (length (leaves e)) l)) old_type stand t
    (plain_kind o (on_array array_slice) is refl) one enough (λ l. omega arith) operands.0 operands.1 operands.2 operands.4
    (λ new_type typed.
    record {
      values = λ l j u at_u below.
          let array_leaf : slice_get (list_copies k (leaves e)) l ≡ Some u = ap (λ x. slice_get (leaves x) l) (sym t_is) ∙ at_u in
          let position = copies_position k l (leaves e) u array_leaf in
          element_typed new_type (stand operands.0) n e (typed operands.0 (array n e) operands.3) (l % length (leaves e)) (j + element_of k (length (leaves e)) l) u position (omega arith);
      words = λ τ wide g is_g index_word.
          ap₂ (λ kind rs. op_value kind o.types t 0 (map (whole stand τ) rs)) is operands.2
          ∙ ap₂ (λ u v. slice_of u (whole stand τ operands.0) (number (whole stand τ operands.1)) v) written t_is
          ∙ ap (λ x. elements_from (array n e) (whole stand τ operands.0) (number x) k) index_word
          ∙ elements_stacked (array n e) (whole stand τ operands.0) (number (τ (part (stand operands.1) 0))) k
          ∙ stacked_rules (λ j. element (array n e) (whole stand τ operands.0) (number (τ (part (stand operands.1) 0)) + j)) (length (leaves e)) k g
          (λ j below.
          picked_words new_type τ wide n e (stand operands.0) (typed operands.0 (array n e) operands.3) (number (τ (part (stand operands.1) 0)) + j)
          (λ l. g ((k - suc j) * length (leaves e) + l))
          (λ l u at_u. element_word τ g is_g j below l u at_u)
          ∙ ap concat_words (rule_shift g ((k - suc j) * length (leaves e)) 0 (length (leaves e)) ∙ ap (λ x. in_row g x (length (leaves e))) (add-zero ((k - suc j) * length (leaves e)))))
          ∙ ap (λ x. concat_words (in_row g 0 x)) (sym (ap (λ x. length (leaves x)) t_is ∙ copies_length k (leaves e)));
    })
  where
    operands : (a : Ref) × (i : Ref) × (o.operands ≡ a ∷ i ∷ []) × (old_type a ≡ Some (array n e)) × (old_type i ≡ Some (int w))
    operands = two_operands old_type o.operands (Some (array n e)) (Some (int w)) given

    -- what is picked for leaf l of element j
    element_word : (τ : Ref → Word) (g : ℕ → Word)
        → ((l : ℕ) (u : HwType) → slice_get (leaves t) l ≡ Some u
        → g l ≡ cond (nat_lt (number (τ (part (stand operands.1) 0))) (n - element_of k (length (leaves e)) l))
        (τ (element_leaf n (length (leaves e)) (stand operands.0) (l % length (leaves e)) (number (τ (part (stand operands.1) 0)) + element_of k (length (leaves e)) l))) (zeros (width u)))
        → (j : ℕ) → j < k → (l : ℕ) (u : HwType) → slice_get (leaves e) l ≡ Some u
        → g ((k - suc j) * length (leaves e) + l) ≡ cond (nat_lt (number (τ (part (stand operands.1) 0)) + j) n)
        (τ (part (stand operands.0) ((n - suc (number (τ (part (stand operands.1) 0)) + j)) * length (leaves e) + l))) (zeros (width u))
    element_word τ g is_g j below l u at_u =
        let within : l < length (leaves e) = slice_get_within (leaves e) l u at_u in
        let at_all : slice_get (leaves t) ((k - suc j) * length (leaves e) + l) ≡ Some u =
        ap (λ x. slice_get (leaves x) ((k - suc j) * length (leaves e) + l)) t_is ∙ copies_at k (k - suc j) l (leaves e) (omega arith) within ∙ at_u in
        let numbers = leaf_number (length (leaves e)) k (k - suc j) l (omega arith) within in
        let of_j : element_of k (length (leaves e)) ((k - suc j) * length (leaves e) + l) ≡ j = numbers.0 ∙ (let q : k - suc (k - suc j) ≡ j = omega arith in q) in
        is_g ((k - suc j) * length (leaves e) + l) u at_all
        ∙ ap₂ (λ x y. cond (nat_lt (number (τ (part (stand operands.1) 0))) (n - x)) (τ (element_leaf n (length (leaves e)) (stand operands.0) y (number (τ (part (stand operands.1) 0)) + x))) (zeros (width u))) of_j numbers.1
        ∙ ap (λ b. cond b (τ (element_leaf n (length (leaves e)) (stand operands.0) l (number (τ (part (stand operands.1) 0)) + j))) (zeros (width u))) (test_moved (number (τ (part (stand operands.1) 0))) j n)
