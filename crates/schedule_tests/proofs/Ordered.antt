-- Lists of callees whose order is tested row by row.
use Rattle.std.proofs.Common.{◌≡◌, ℕ, zero, suc, ◌+◌, ◌<◌, ◌&&◌, true, List, [], ◌∷◌, map, length, get_or, drop, replicate, Some, slice_get, refl, sym, ap, ◌∙◌, drop-cons, arith}
use Rattle.std.specs.Prelude.{nat_lt}
use Rattle.std.proofs.lemmas.Bool.{lt-ltb, and_from}
use Rattle.sched_core.proofs.Falling.{all_below, falls}

-- one more entry is below
pub below-step : (n i k : ℕ) (row : List ℕ) → i < length row → k ≡ get_or row i 0 → k < n → (all_below n (drop i row) ≡ true → all_below n row ≡ true) → all_below n (drop (i + 1) row) ≡ true → all_below n row ≡ true
below-step n i k row inside is below all rest = all (ap (all_below n) (drop-cons row i 0 inside) ∙ and_from (nat_lt (get_or row i 0) n) (all_below n (drop (suc i) row)) (ap (λ z. nat_lt z n) (sym is) ∙ lt-ltb k n below)
    (ap (λ j. all_below n (drop j row)) (let e : suc i ≡ i + 1 = omega arith in e) ∙ rest))

module _ {A : Type 0} (f : A → List ℕ) where
  -- one more row
  pub falls-step : (rows : List A) (i : ℕ) (row : A) → i < length rows → row ≡ get_or rows i row → all_below i (f row) ≡ true → length (f row) < 4294967296
      → (falls i (map f (drop i rows)) ≡ true → falls 0 (map f rows) ≡ true) → falls (i + 1) (map f (drop (i + 1) rows)) ≡ true → falls 0 (map f rows) ≡ true
  falls-step rows i row inside is below short all rest = all (ap (λ rs. falls i (map f rs)) (drop-cons rows i row inside ∙ ap (λ r. r ∷ drop (suc i) rows) (sym is))
      ∙ and_from (all_below i (f row)) (nat_lt (length (f row)) 4294967296 && falls (i + 1) (map f (drop (suc i) rows))) below
      (and_from (nat_lt (length (f row)) 4294967296) (falls (i + 1) (map f (drop (suc i) rows))) (lt-ltb (length (f row)) 4294967296 short)
      (ap (λ j. falls (i + 1) (map f (drop j rows))) (let e : suc i ≡ i + 1 = omega arith in e) ∙ rest)))

  -- no row is left
  pub falls-end : (rows : List A) (n i : ℕ) → length rows ≡ i → falls n (map f (drop i rows)) ≡ true
  falls-end [] n zero e = refl
  falls-end [] n (suc i) e = absurd (omega arith)
  falls-end (r ∷ rows) n zero e = absurd (omega arith)
  falls-end (r ∷ rows) n (suc i) e = falls-end rows n i (omega arith)

-- each of many equal bodies is that one
pub replicate-get : (n x m b : ℕ) → slice_get (replicate n x) m ≡ Some b → b ≡ x
replicate-get zero x m b is = absurd (cc)
replicate-get (suc n) x zero b is = let e : x ≡ b = cc in sym e
replicate-get (suc n) x (suc m) b is = replicate-get n x m b is
