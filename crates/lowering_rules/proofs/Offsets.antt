-- What stands in a position of a list, by a function that reads positions.
use Rattle.std.proofs.Common.{◌≡◌, ℕ, zero, suc, ◌<◌, ◌≤◌, List, [], ◌∷◌, length, map, get_or, sym, ap, ◌∙◌, arith}

module _ {A B : Type 0} (read : List B → ℕ → B) (view : A → B) where
  -- within a list
  pub position_index : ((y : B) (ys : List B) → read (y ∷ ys) 0 ≡ y) → ((y : B) (ys : List B) (n : ℕ) → read (y ∷ ys) (suc n) ≡ read ys n)
      → (xs : List A) (n : ℕ) (x : A) → n < length xs → x ≡ get_or xs n x → view x ≡ read (map view xs) n
  position_index first next [] n x low is = absurd (omega arith)
  position_index first next (y ∷ xs) zero x low is = ap view is ∙ sym (first (view y) (map view xs))
  position_index first next (y ∷ xs) (suc n) x low is = position_index first next xs n x (omega arith) is ∙ sym (next (view y) (map view xs) n)

  -- past its end
  pub position_past : (none : B) → ((n : ℕ) → read [] n ≡ none) → ((y : B) (ys : List B) (n : ℕ) → read (y ∷ ys) (suc n) ≡ read ys n)
      → (xs : List A) (n : ℕ) → length xs ≤ n → none ≡ read (map view xs) n
  position_past none empty next [] n past = sym (empty n)
  position_past none empty next (y ∷ xs) zero past = absurd (omega arith)
  position_past none empty next (y ∷ xs) (suc n) past = position_past none empty next xs n (omega arith) ∙ sym (next (view y) (map view xs) n)
