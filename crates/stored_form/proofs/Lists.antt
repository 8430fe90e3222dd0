-- Lists of which each member is so, one member after another.
use Rattle.std.proofs.Common.{◌≡◌, ◌↔◌, IsTrue, ℕ, zero, suc, ◌+◌, ◌<◌, ◌≤◌, Bool, true, false, List, [], ◌∷◌, Some, length, map, take, get_or, slice_get, refl, sym, subst, ◌∙◌, arith, add-one}
use Rattle.std.proofs.lemmas.Bool.{false≢true}
use Rattle.std.proofs.lemmas.List.{take_all}
use Rattle.stored_form.specs.Bytes.{Each}

module _ {A B : Type 0} (P : B → Type 0) (view : A → B) where
  -- the member at a location is so
  pub each_at : (xs : List A) (i : ℕ) (x : A) → i < length xs → x ≡ get_or xs i x → Each P (map view xs) → P (view x)
  each_at [] i x below e h = absurd (omega arith)
  each_at (y ∷ ys) zero x below e h = subst (λ (z : A). P (view z)) (sym e) h.0
  each_at (y ∷ ys) (suc i) x below e h = each_at ys i x (omega arith) e h.1

  -- where one is not so, not each is
  pub not_each : (xs : List A) (i : ℕ) (x : A) (r : Bool) → i < length xs → x ≡ get_or xs i x → (IsTrue r ↔ P (view x)) → r ≡ false → IsTrue false ↔ Each P (map view xs)
  not_each xs i x r below e says denied =
      (λ never. absurd (false≢true never), λ h. absurd (false≢true (sym denied ∙ says.1 (each_at xs i x below e h))))

  -- the members before a location, and the one there
  one_more : (xs : List A) (i : ℕ) (x : A) → i < length xs → x ≡ get_or xs i x → Each P (map view (take i xs)) → P (view x) → Each P (map view (take (suc i) xs))
  one_more [] i x below e h p = absurd (omega arith)
  one_more (y ∷ ys) zero x below e h p = (subst (λ (z : A). P (view z)) e p, tt)
  one_more (y ∷ ys) (suc i) x below e h p = (h.0, one_more ys i x (omega arith) e h.1 p)

  pub each_more : (xs : List A) (i : ℕ) (x : A) → i < length xs → x ≡ get_or xs i x → Each P (map view (take i xs)) → P (view x) → Each P (map view (take (i + 1) xs))
  each_more xs i x below e h p = rw add-one (one_more xs i x below e h p)

  -- all members
  pub each_all : (xs : List A) (n : ℕ) → length xs ≤ n → Each P (map view (take n xs)) → IsTrue true ↔ Each P (map view xs)
  each_all xs n all h = (λ _. subst (λ (ys : List A). Each P (map view ys)) (take_all n xs all) h, λ _. refl)

-- a fact that says the same
pub same_fact : (P Q : Type 0) (r : Bool) → (IsTrue r ↔ P) → (P → Q) → (Q → P) → IsTrue r ↔ Q
same_fact P Q r says to from = (λ h. to (says.0 h), λ q. says.1 (from q))

-- members that are found by their numbers
module _ {A : Type 0} (P : A → Type 0) where
  found_at : (xs : List A) (i : ℕ) (x : A) → slice_get xs i ≡ Some x → Each P xs → P x
  found_at [] i x there h = cc
  found_at (y ∷ ys) zero x there h = let same : y ≡ x = cc in subst P same h.0
  found_at (y ∷ ys) (suc i) x there h = found_at ys i x there h.1

  pub not_each_found : (xs : List A) (i : ℕ) (x : A) (r : Bool) → slice_get xs i ≡ Some x → (IsTrue r ↔ P x) → r ≡ false → IsTrue false ↔ Each P xs
  not_each_found xs i x r there says denied = (λ never. absurd (false≢true never), λ h. absurd (false≢true (sym denied ∙ says.1 (found_at xs i x there h))))

  one_found : (xs : List A) (i : ℕ) (x : A) → slice_get xs i ≡ Some x → Each P (take i xs) → P x → Each P (take (suc i) xs)
  one_found [] i x there h p = cc
  one_found (y ∷ ys) zero x there h p = let same : x ≡ y = cc in (subst P same p, tt)
  one_found (y ∷ ys) (suc i) x there h p = (h.0, one_found ys i x there h.1 p)

  pub each_found : (xs : List A) (i : ℕ) (x : A) → slice_get xs i ≡ Some x → Each P (take i xs) → P x → Each P (take (i + 1) xs)
  each_found xs i x there h p = rw add-one (one_found xs i x there h p)
