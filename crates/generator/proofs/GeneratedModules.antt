-- The modules of a generated design stand at their numbers, and are found by their symbols.
use Rattle.std.proofs.Common.{◌≡◌, ◌⊎◌, ℕ, zero, suc, ◌*◌, ◌<◌, ◌≤◌, ◌^◌, List, [], ◌∷◌, ◌++◌, length, drop, slice_get, Some, refl, sym, ap, ◌∙◌, inl, inr, arith}
use Rattle.std.proofs.lemmas.Fmt.{decimal_injective}
use Rattle.hw_model.specs.Design.{Module, find_module}
use Rattle.design_cycles.specs.Asked.{HasDistinctSymbols}
use Rattle.design_cycles.proofs.Callees.{found_at}
use Rattle.generator.specs.Draws.{state_after}
use Rattle.generator.specs.Generated.{module_symbol, generated_module, first_modules, generated}

-- ---- symbols

pub symbol_injective : (i j : ℕ) → i < 2 ^ 64 → j < 2 ^ 64 → module_symbol i ≡ module_symbol j → i ≡ j
symbol_injective i j low high same = decimal_injective i j low high (ap (drop 1) same)

-- ---- lists with one more

-- what stands in a list with one more stands in the list, or is that one
module _ {A : Type 0} where
  more_at : (xs : List A) (y : A) (i : ℕ) (x : A) → slice_get (xs ++ y ∷ []) i ≡ Some x → (slice_get xs i ≡ Some x) ⊎ ((i ≡ length xs) × (x ≡ y))
  more_at [] y zero x is = inr (refl, cc)
  more_at [] y (suc i) x is = cc
  more_at (z ∷ xs) y zero x is = inl is
  more_at (z ∷ xs) y (suc i) x is = go (more_at xs y i x is)
    where
      go : (slice_get xs i ≡ Some x) ⊎ ((i ≡ length xs) × (x ≡ y)) → (slice_get xs i ≡ Some x) ⊎ ((suc i ≡ suc (length xs)) × (x ≡ y))
      go (inl before) = inl before
      go (inr (at, same)) = inr (ap suc at, same)

  last_at : (xs : List A) (y : A) → slice_get (xs ++ y ∷ []) (length xs) ≡ Some y
  last_at [] y = refl
  last_at (x ∷ xs) y = last_at xs y

  kept_at : (xs : List A) (y : A) (i : ℕ) → i < length xs → slice_get (xs ++ y ∷ []) i ≡ slice_get xs i
  kept_at [] y i within = absurd (omega arith)
  kept_at (x ∷ xs) y zero within = refl
  kept_at (x ∷ xs) y (suc i) within = kept_at xs y i (omega arith)

  pub length_more : (xs : List A) (y : A) → length (xs ++ y ∷ []) ≡ suc (length xs)
  length_more [] y = refl
  length_more (x ∷ xs) y = ap suc (length_more xs y)

-- ---- modules by their numbers

module _ (seed n : ℕ) where
  -- module k
  abbrev pub made : ℕ → Module
  made k = generated_module n k (state_after seed (4 * k))

  pub count_first : (k : ℕ) → length (first_modules seed n k) ≡ k
  count_first zero = refl
  count_first (suc k) = length_more (first_modules seed n k) (made k) ∙ ap suc (count_first k)

  first_at : (k i : ℕ) (m : Module) → slice_get (first_modules seed n k) i ≡ Some m → (i < k) × (m ≡ made i)
  first_at zero i m is = cc
  first_at (suc k) i m is = go (more_at (first_modules seed n k) (made k) i m is) (first_at k i m)
    where
      go : (slice_get (first_modules seed n k) i ≡ Some m) ⊎ ((i ≡ length (first_modules seed n k)) × (m ≡ made k))
          → (slice_get (first_modules seed n k) i ≡ Some m → (i < k) × (m ≡ made i)) → (i < suc k) × (m ≡ made i)
      go (inl before) rest = let found = rest before in let low : i < k = found.0 in (omega arith, found.1)
      go (inr (at, same)) rest = let last : i ≡ k = at ∙ count_first k in (omega arith, same ∙ ap made (sym last))

  at_first : (k i : ℕ) → i < k → slice_get (first_modules seed n k) i ≡ Some (made i)
  at_first zero i low = absurd (omega arith)
  at_first (suc k) i low = go (grind arith) (at_first k i)
    where
      go : (i < k) ⊎ (i ≡ k) → (i < k → slice_get (first_modules seed n k) i ≡ Some (made i)) → slice_get (first_modules seed n (suc k)) i ≡ Some (made i)
      go (inl less) rest =
          let count : length (first_modules seed n k) ≡ k = count_first k in
          kept_at (first_modules seed n k) (made k) i (omega arith) ∙ rest less
      go (inr last) rest =
          ap (slice_get (first_modules seed n (suc k))) (last ∙ sym (count_first k)) ∙ last_at (first_modules seed n k) (made k) ∙ ap (λ j. Some (made j)) (sym last)

  -- what stands in the design is the module of its location
  pub made_at : (i : ℕ) (m : Module) → slice_get (generated seed n) i ≡ Some m → (i < n) × (m ≡ made i)
  made_at i m is = first_at n i m is

  pub at_made : (i : ℕ) → i < n → slice_get (generated seed n) i ≡ Some (made i)
  at_made i low = at_first n i low

  module _ (few : n ≤ 10000) where
    pub distinct : HasDistinctSymbols (generated seed n)
    distinct i j m o first second same =
        let a = made_at i m first in
        let b = made_at j o second in
        let low : i < n = a.0 in
        let high : j < n = b.0 in
        symbol_injective i j (omega arith) (omega arith) (ap (λ (x : Module). x.symbol) (sym a.1) ∙ same ∙ ap (λ (x : Module). x.symbol) b.1)

    -- each is found by its symbol
    pub found : (i : ℕ) → i < n → find_module (generated seed n) (module_symbol i) ≡ Some (made i)
    found i low = (found_at (generated seed n) distinct i (made i) (at_made i low)).1
