-- Operands that decide nothing may go: neutral ones, and of and, or those that stand earlier too.
use Rattle.std.proofs.Common.{◌≡◌, ℕ, suc, ◌+◌, ◌*◌, ◌≤◌, Bool, true, false, cond, ◌&&◌, ◌||◌, List, [], ◌∷◌, length, map, Option, Some, None, refl, sym, ap, subst, ◌∙◌, inl, inr, arith, mul_comm, mul-one, zero-add, option_map}
use Rattle.std.proofs.lemmas.List.{length-replicate}
use Rattle.wiring.specs.Lists.{total}
use Rattle.wiring.specs.Wiring.{In}
use Rattle.wiring.proofs.Members.{from_In-map, All-from_members}
use Rattle.wiring.proofs.Options.{option_map_some}
use Rattle.bits_core.specs.Word.{Word, number, bits, zeros, ones, xor as xor_bits, bitwise, and_words, or_words, xor_words}
use Rattle.bits_core.proofs.Bitwise.{and_words-ones, or_words-zeros, xor_words-zeros, and_words_comm, or_words_comm, xor_words_comm, and_words_assoc, or_words_assoc, and_words_self, or_words_self}
use Rattle.hw_model.specs.Equality.{number_from}
use Rattle.hw_model.specs.Kinds.{Variadic}
use Rattle.hw_model.specs.Kinds.Variadic.{add, mul, and, or, xor}
use Rattle.hw_model.specs.Design.{Ref, Op}
use Rattle.hw_model.specs.Value.{product, and_all, or_all, xor_all, variadic_value}
use Rattle.hw_model.proofs.Operands.{width_folded}
use Rattle.ir_store.specs.Positions.{same_ref}
use Rattle.fold_laws.specs.Constants.{constant_at, is_constant_where, is_zero, is_one, is_ones}
use Rattle.fold_laws.specs.Fewer.{without_first, without_first_of_more, or_else, without_repeat, add_zero, or_zero, xor_zero, and_ones, mul_one, repeated_operand}
use Rattle.fold_laws.proofs.Choices.{ref_from}
use Rattle.fold_laws.proofs.Constants.{meets_is, zero_is, ones_are}
use Rattle.fold_laws.proofs.FewerOperands.{Reduces, IsReduction}

-- each word has w bits
EachWide : ℕ → List Word → Type 0
EachWide w xs = (x : Word) → In x xs → length x ≡ w

-- ---- what is dropped

pub record Drops (rs rs' : List Ref) : Type 0 where
  pub count : suc (length rs') ≡ length rs
  pub within : (r : Ref) → In r rs' → In r rs

pub drops : (test : Ref → Bool) (rs rs' : List Ref) → without_first test rs ≡ Some rs' → Drops rs rs'
drops test [] rs' is = cc
drops test (x ∷ xs) rs' is = go (test x) is (drops test xs)
  where
    go : (b : Bool) → cond b (Some xs) (option_map (λ (ys : List Ref). x ∷ ys) (without_first test xs)) ≡ Some rs'
        → ((ys : List Ref) → without_first test xs ≡ Some ys → Drops xs ys) → Drops (x ∷ xs) rs'
    go true h later =
        let same : xs ≡ rs' = cc in
        subst (Drops (x ∷ xs)) same (record { count = refl; within = λ r here. inr here })
    go false h later =
        let rest = option_map_some (λ (ys : List Ref). x ∷ ys) (without_first test xs) h in
        let inner = later rest.0 rest.1 in
        subst (Drops (x ∷ xs)) rest.2 (record { count = ap suc inner.count; within = within_more rest.0 inner.within })
      where
        within_more : (ys : List Ref) → ((r : Ref) → In r ys → In r xs) → (r : Ref) → In r (x ∷ ys) → In r (x ∷ xs)
        within_more ys inside r (inl same) = inl same
        within_more ys inside r (inr here) = inr (inside r here)

-- a value worked from the last operand to the first stays where a neutral one goes
module _ {A : Type 0} (inner : List Word → A) (step : Word → A → A) (more : (x : Word) (xs : List Word) → inner (x ∷ xs) ≡ step x (inner xs)) (w : ℕ)
    (τ : Ref → Word) (test : Ref → Bool)
    (neutral : (r : Ref) → test r ≡ true → length (τ r) ≡ w → (xs : List Word) → EachWide w xs → step (τ r) (inner xs) ≡ inner xs) where
  dropped_same : (rs rs' : List Ref) → without_first test rs ≡ Some rs' → ((r : Ref) → In r rs → length (τ r) ≡ w) → inner (map τ rs) ≡ inner (map τ rs')
  unfolding EachWide
  dropped_same [] rs' is wide = cc
  dropped_same (x ∷ xs) rs' is wide = go (test x) refl is (λ ys h. dropped_same xs ys h (λ r here. wide r (inr here)))
    where
      each : EachWide w (map τ xs)
      each y here = let from = from_In-map τ y xs here in ap length from.2 ∙ wide from.0 (inr from.1)

      go : (b : Bool) → test x ≡ b → cond b (Some xs) (option_map (λ (ys : List Ref). x ∷ ys) (without_first test xs)) ≡ Some rs'
          → ((ys : List Ref) → without_first test xs ≡ Some ys → inner (map τ xs) ≡ inner (map τ ys)) → inner (map τ (x ∷ xs)) ≡ inner (map τ rs')
      go true met h later =
          let same : xs ≡ rs' = cc in
          more (τ x) (map τ xs) ∙ neutral x met (wide x (inl refl)) (map τ xs) each ∙ ap (λ q. inner (map τ q)) same
      go false met h later =
          let rest = option_map_some (λ (ys : List Ref). x ∷ ys) (without_first test xs) h in
          more (τ x) (map τ xs) ∙ ap (step (τ x)) (later rest.0 rest.1) ∙ sym (more (τ x) (map τ rest.0)) ∙ ap (λ q. inner (map τ q)) rest.2

-- ---- neutral operands

-- a constant that meets a test, and its word
neutral_word : (test : Word → Bool) (os : List Op) (τ : Ref → Word) → ((r : Ref) (x : Word) → constant_at os r ≡ Some x → τ r ≡ x)
    → (r : Ref) → is_constant_where test os r ≡ true → test (τ r) ≡ true
neutral_word test os τ held r met =
    let word = meets_is test (constant_at os r) met in
    ap test (held r word.0 word.1) ∙ word.2

-- what must be shown where one of two operands or more is dropped
dropped_reduces : (v : Variadic) (test : Word → Bool) (os : List Op) (rs rs' : List Ref) → without_first_of_more (is_constant_where test os) rs ≡ Some rs'
    → ((w : ℕ) (τ : Ref → Word) → ((r : Ref) (x : Word) → constant_at os r ≡ Some x → τ r ≡ x) → ((r : Ref) → In r rs → length (τ r) ≡ w)
    → without_first (is_constant_where test os) rs ≡ Some rs' → variadic_value v w (map τ rs) ≡ variadic_value v w (map τ rs')) → Reduces v os rs rs'
dropped_reduces v test os [] rs' is same = cc
dropped_reduces v test os (x ∷ []) rs' is same = cc
dropped_reduces v test os (x ∷ y ∷ rs) rs' is same =
    let one = drops (is_constant_where test os) (x ∷ y ∷ rs) rs' is in
    let count : suc (length rs') ≡ suc (suc (length rs)) = one.count in
    record {
      fewer = omega arith;
      some = omega arith;
      within = one.within;
      words = λ w τ held wide. same w τ held wide is;
    }

add_zero_drops : (os : List Op) (rs rs' : List Ref) (w : ℕ) (τ : Ref → Word) → ((r : Ref) (x : Word) → constant_at os r ≡ Some x → τ r ≡ x)
    → ((r : Ref) → In r rs → length (τ r) ≡ w) → without_first (is_constant_where is_zero os) rs ≡ Some rs' → variadic_value add w (map τ rs) ≡ variadic_value add w (map τ rs')
add_zero_drops os rs rs' w τ held wide is =
    ap (bits w) (dropped_same (λ xs. total (map number xs)) (λ x n. number x + n) (λ x xs. refl) w τ (is_constant_where is_zero os)
    (λ r met size xs each.
    ap (λ n. n + total (map number xs)) (number_from (number (τ r)) 0 (neutral_word is_zero os τ held r met)) ∙ zero-add (total (map number xs)))
    rs rs' is wide)

mul_one_drops : (os : List Op) (rs rs' : List Ref) (w : ℕ) (τ : Ref → Word) → ((r : Ref) (x : Word) → constant_at os r ≡ Some x → τ r ≡ x)
    → ((r : Ref) → In r rs → length (τ r) ≡ w) → without_first (is_constant_where is_one os) rs ≡ Some rs' → variadic_value mul w (map τ rs) ≡ variadic_value mul w (map τ rs')
mul_one_drops os rs rs' w τ held wide is =
    ap (bits w) (dropped_same (λ xs. product (map number xs)) (λ x n. number x * n) (λ x xs. refl) w τ (is_constant_where is_one os)
    (λ r met size xs each.
    ap (λ n. n * product (map number xs)) (number_from (number (τ r)) 1 (neutral_word is_one os τ held r met)) ∙ mul_comm 1 (product (map number xs)) ∙ mul-one (product (map number xs)))
    rs rs' is wide)

-- the values of bitwise operations have as many bits as their operands
all_wide : (value : List Word → Word) (f : Bool → Bool → Bool) (w : ℕ) → length (value []) ≡ w → ((x : Word) (xs : List Word) → value (x ∷ xs) ≡ bitwise f x (value xs))
    → (xs : List Word) → EachWide w xs → length (value xs) ≡ w
unfolding EachWide
all_wide value f w empty more xs each = width_folded value f w empty more xs (All-from_members (λ (u : Word). length u ≡ w) xs each)

and_ones_drops : (os : List Op) (rs rs' : List Ref) (w : ℕ) (τ : Ref → Word) → ((r : Ref) (x : Word) → constant_at os r ≡ Some x → τ r ≡ x)
    → ((r : Ref) → In r rs → length (τ r) ≡ w) → without_first (is_constant_where is_ones os) rs ≡ Some rs' → variadic_value and w (map τ rs) ≡ variadic_value and w (map τ rs')
and_ones_drops os rs rs' w τ held wide is =
    dropped_same (and_all w) and_words (λ x xs. refl) w τ (is_constant_where is_ones os)
    (λ r met size xs each.
    let all : length (and_all w xs) ≡ w = all_wide (and_all w) (λ a b. a && b) w (length-replicate w true) (λ x ys. refl) xs each in
    ap (λ x. and_words x (and_all w xs)) (ones_are (τ r) (neutral_word is_ones os τ held r met) ∙ ap ones (size ∙ sym all))
    ∙ and_words_comm (ones (length (and_all w xs))) (and_all w xs) ∙ and_words-ones (and_all w xs))
    rs rs' is wide

or_zero_drops : (os : List Op) (rs rs' : List Ref) (w : ℕ) (τ : Ref → Word) → ((r : Ref) (x : Word) → constant_at os r ≡ Some x → τ r ≡ x)
    → ((r : Ref) → In r rs → length (τ r) ≡ w) → without_first (is_constant_where is_zero os) rs ≡ Some rs' → variadic_value or w (map τ rs) ≡ variadic_value or w (map τ rs')
or_zero_drops os rs rs' w τ held wide is =
    dropped_same (or_all w) or_words (λ x xs. refl) w τ (is_constant_where is_zero os)
    (λ r met size xs each.
    let all : length (or_all w xs) ≡ w = all_wide (or_all w) (λ a b. a || b) w (length-replicate w false) (λ x ys. refl) xs each in
    ap (λ x. or_words x (or_all w xs)) (zero_is (τ r) (neutral_word is_zero os τ held r met) ∙ ap zeros (size ∙ sym all))
    ∙ or_words_comm (zeros (length (or_all w xs))) (or_all w xs) ∙ or_words-zeros (or_all w xs))
    rs rs' is wide

xor_zero_drops : (os : List Op) (rs rs' : List Ref) (w : ℕ) (τ : Ref → Word) → ((r : Ref) (x : Word) → constant_at os r ≡ Some x → τ r ≡ x)
    → ((r : Ref) → In r rs → length (τ r) ≡ w) → without_first (is_constant_where is_zero os) rs ≡ Some rs' → variadic_value xor w (map τ rs) ≡ variadic_value xor w (map τ rs')
xor_zero_drops os rs rs' w τ held wide is =
    dropped_same (xor_all w) xor_words (λ x xs. refl) w τ (is_constant_where is_zero os)
    (λ r met size xs each.
    let all : length (xor_all w xs) ≡ w = all_wide (xor_all w) xor_bits w (length-replicate w false) (λ x ys. refl) xs each in
    ap (λ x. xor_words x (xor_all w xs)) (zero_is (τ r) (neutral_word is_zero os τ held r met) ∙ ap zeros (size ∙ sym all))
    ∙ xor_words_comm (zeros (length (xor_all w xs))) (xor_all w xs) ∙ xor_words-zeros (xor_all w xs))
    rs rs' is wide

pub add_zero_reduces : IsReduction add_zero
add_zero_reduces os add rs rs' is = dropped_reduces add is_zero os rs rs' is (add_zero_drops os rs rs')
add_zero_reduces os _ rs rs' is = cc

pub mul_one_reduces : IsReduction mul_one
mul_one_reduces os mul rs rs' is = dropped_reduces mul is_one os rs rs' is (mul_one_drops os rs rs')
mul_one_reduces os _ rs rs' is = cc

pub and_ones_reduces : IsReduction and_ones
and_ones_reduces os and rs rs' is = dropped_reduces and is_ones os rs rs' is (and_ones_drops os rs rs')
and_ones_reduces os _ rs rs' is = cc

pub or_zero_reduces : IsReduction or_zero
or_zero_reduces os or rs rs' is = dropped_reduces or is_zero os rs rs' is (or_zero_drops os rs rs')
or_zero_reduces os _ rs rs' is = cc

pub xor_zero_reduces : IsReduction xor_zero
xor_zero_reduces os xor rs rs' is = dropped_reduces xor is_zero os rs rs' is (xor_zero_drops os rs rs')
xor_zero_reduces os _ rs rs' is = cc

-- ---- repeated operands

-- an operation by which a value that stands earlier decides nothing
module _ (value : List Word → Word) (step : Word → Word → Word) (more : (x : Word) (xs : List Word) → value (x ∷ xs) ≡ step x (value xs))
    (comm : (x y : Word) → step x y ≡ step y x) (assoc : (x y z : Word) → step (step x y) z ≡ step x (step y z)) (self : (x : Word) → step x x ≡ x) (τ : Ref → Word) where
  again_same : (r : Ref) (xs ys : List Ref) → without_first (same_ref r) xs ≡ Some ys → step (τ r) (value (map τ xs)) ≡ step (τ r) (value (map τ ys))
  again_same r [] ys is = cc
  again_same r (x ∷ xs) ys is = go (same_ref r x) refl is (again_same r xs)
    where
      go : (b : Bool) → same_ref r x ≡ b → cond b (Some xs) (option_map (λ (zs : List Ref). x ∷ zs) (without_first (same_ref r) xs)) ≡ Some ys
          → ((zs : List Ref) → without_first (same_ref r) xs ≡ Some zs → step (τ r) (value (map τ xs)) ≡ step (τ r) (value (map τ zs)))
          → step (τ r) (value (map τ (x ∷ xs))) ≡ step (τ r) (value (map τ ys))
      go true met h later =
          let same : xs ≡ ys = cc in
          let one : r ≡ x = ref_from r x met in
          ap (step (τ r)) (more (τ x) (map τ xs) ∙ ap (λ z. step (τ z) (value (map τ xs))) (sym one))
          ∙ sym (assoc (τ r) (τ r) (value (map τ xs))) ∙ ap (λ z. step z (value (map τ xs))) (self (τ r)) ∙ ap (λ q. step (τ r) (value (map τ q))) same
      go false met h later =
          let rest = option_map_some (λ (zs : List Ref). x ∷ zs) (without_first (same_ref r) xs) h in
          ap (step (τ r)) (more (τ x) (map τ xs)) ∙ turned (τ r) (τ x) (value (map τ xs)) ∙ ap (step (τ x)) (later rest.0 rest.1)
          ∙ sym (turned (τ r) (τ x) (value (map τ rest.0))) ∙ ap (step (τ r)) (sym (more (τ x) (map τ rest.0))) ∙ ap (λ q. step (τ r) (value (map τ q))) rest.2
        where
          turned : (a b z : Word) → step a (step b z) ≡ step b (step a z)
          turned a b z = sym (assoc a b z) ∙ ap (λ y. step y z) (comm a b) ∙ assoc b a z

  repeat_same : (rs rs' : List Ref) → without_repeat rs ≡ Some rs' → value (map τ rs) ≡ value (map τ rs')
  repeat_same [] rs' is = cc
  repeat_same (x ∷ xs) rs' is = go (without_first (same_ref x) xs) refl is (repeat_same xs)
    where
      go : (o : Option (List Ref)) → without_first (same_ref x) xs ≡ o
          → or_else (option_map (λ (ys : List Ref). x ∷ ys) o) (option_map (λ (ys : List Ref). x ∷ ys) (without_repeat xs)) ≡ Some rs'
          → ((ys : List Ref) → without_repeat xs ≡ Some ys → value (map τ xs) ≡ value (map τ ys)) → value (map τ (x ∷ xs)) ≡ value (map τ rs')
      go (Some ys) there h later =
          let same : x ∷ ys ≡ rs' = cc in
          more (τ x) (map τ xs) ∙ again_same x xs ys there ∙ sym (more (τ x) (map τ ys)) ∙ ap (λ q. value (map τ q)) same
      go None there h later =
          let rest = option_map_some (λ (ys : List Ref). x ∷ ys) (without_repeat xs) h in
          more (τ x) (map τ xs) ∙ ap (step (τ x)) (later rest.0 rest.1) ∙ sym (more (τ x) (map τ rest.0)) ∙ ap (λ q. value (map τ q)) rest.2

repeat_drops : (rs rs' : List Ref) → without_repeat rs ≡ Some rs' → Drops rs rs' × (1 ≤ length rs')
repeat_drops [] rs' is = cc
repeat_drops (x ∷ xs) rs' is = go (without_first (same_ref x) xs) refl is (repeat_drops xs)
  where
    following : (ys : List Ref) → Drops xs ys → x ∷ ys ≡ rs' → Drops (x ∷ xs) rs' × (1 ≤ length rs')
    following ys inner same =
        subst (λ q. Drops (x ∷ xs) q × (1 ≤ length q)) same
        (record { count = ap suc inner.count; within = λ r here. within_more r here }, omega arith)
      where
        within_more : (r : Ref) → In r (x ∷ ys) → In r (x ∷ xs)
        within_more r (inl here) = inl here
        within_more r (inr here) = inr (inner.within r here)

    go : (o : Option (List Ref)) → without_first (same_ref x) xs ≡ o
        → or_else (option_map (λ (ys : List Ref). x ∷ ys) o) (option_map (λ (ys : List Ref). x ∷ ys) (without_repeat xs)) ≡ Some rs'
        → ((ys : List Ref) → without_repeat xs ≡ Some ys → Drops xs ys × (1 ≤ length ys)) → Drops (x ∷ xs) rs' × (1 ≤ length rs')
    go (Some ys) there h later = following ys (drops (same_ref x) xs ys there) cc
    go None there h later =
        let rest = option_map_some (λ (ys : List Ref). x ∷ ys) (without_repeat xs) h in
        following rest.0 (later rest.0 rest.1).0 rest.2

repeat_reduces : (v : Variadic) (os : List Op) (rs rs' : List Ref) → without_repeat rs ≡ Some rs'
    → ((w : ℕ) (τ : Ref → Word) → variadic_value v w (map τ rs) ≡ variadic_value v w (map τ rs')) → Reduces v os rs rs'
repeat_reduces v os rs rs' is same =
    let one = repeat_drops rs rs' is in
    let count : suc (length rs') ≡ length rs = one.0.count in
    record {
      fewer = omega arith;
      some = one.1;
      within = one.0.within;
      words = λ w τ held wide. same w τ;
    }

pub repeated_reduces : IsReduction repeated_operand
repeated_reduces os and rs rs' is =
    repeat_reduces and os rs rs' is (λ w τ. repeat_same (and_all w) and_words (λ x xs. refl) and_words_comm and_words_assoc and_words_self τ rs rs' is)
repeated_reduces os or rs rs' is =
    repeat_reduces or os rs rs' is (λ w τ. repeat_same (or_all w) or_words (λ x xs. refl) or_words_comm or_words_assoc or_words_self τ rs rs' is)
repeated_reduces os _ rs rs' is = cc
