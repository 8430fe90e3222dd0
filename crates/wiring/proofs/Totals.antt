-- Sums by recursion: of joined lists, of maps, of parts and after an edit.
use Rattle.std.proofs.Common.{◌≡◌, ℕ, zero, suc, ◌+◌, ◌*◌, ◌<◌, ◌≤◌, List, [], ◌∷◌, ◌++◌, length, map, take, drop, set, insert, remove, flat_map, slice_get, Some, sum, refl, sym, ap, subst, ◌∙◌, inl, inr, arith, length-append, zero-mul, suc-mul, zero-add, add_assoc}
use Rattle.std.proofs.lemmas.List.{map-append}
use Rattle.std.proofs.lemmas.List.Sums.{sum_by-cons}
use Rattle.wiring.specs.Lists.{total}
use Rattle.wiring.specs.Wiring.{In}

pub total-append : (ns ms : List ℕ) → total (ns ++ ms) ≡ total ns + total ms
total-append [] ms = sym (zero-add (total ms))
total-append (n ∷ ns) ms = ap (λ k. n + k) (total-append ns ms) ∙ sym (add_assoc n (total ns) (total ms))

-- the standard library's sum, which goes from the left, is the same
pub total-is-sum : (ns : List ℕ) → total ns ≡ sum ns
total-is-sum [] = refl
total-is-sum (n ∷ ns) = ap (λ k. n + k) (total-is-sum ns) ∙ sym (sum_by-cons (λ k. k) n ns)

pub total-take-drop : (i : ℕ) (ns : List ℕ) → total (take i ns) + total (drop i ns) ≡ total ns
total-take-drop zero ns = zero-add (total ns)
total-take-drop (suc i) [] = refl
total-take-drop (suc i) (n ∷ ns) = let rest : total (take i ns) + total (drop i ns) ≡ total ns = total-take-drop i ns in omega arith

-- no member is greater than the sum
pub le-total : (n : ℕ) (ns : List ℕ) → In n ns → n ≤ total ns
le-total n [] here = absurd here
le-total n (m ∷ ms) (inl same) = omega arith
le-total n (m ∷ ms) (inr here) = let rest : n ≤ total ms = le-total n ms here in omega arith

pub total-insert : (ns : List ℕ) (i n : ℕ) → total (insert ns i n) ≡ n + total ns
total-insert ns zero n = refl
total-insert [] (suc i) n = refl
total-insert (m ∷ ms) (suc i) n = let rest : total (insert ms i n) ≡ n + total ms = total-insert ms i n in omega arith

pub total-remove : (ns : List ℕ) (i n : ℕ) → slice_get ns i ≡ Some n → n + total (remove ns i) ≡ total ns
total-remove [] i n is = cc
total-remove (m ∷ ms) zero n is = let same : n ≡ m = cc in ap (λ k. k + total ms) same
total-remove (m ∷ ms) (suc i) n is = let rest : n + total (remove ms i) ≡ total ms = total-remove ms i n is in omega arith

pub total-set : (ns : List ℕ) (i n m : ℕ) → slice_get ns i ≡ Some n → n + total (set ns i m) ≡ m + total ns
total-set [] i n m is = cc
total-set (k ∷ ks) zero n m is = let same : n ≡ k = cc in omega arith
total-set (k ∷ ks) (suc i) n m is = let rest : n + total (set ks i m) ≡ m + total ks = total-set ks i n m is in omega arith

module _ {A : Type 0} where
  pub total-map_append : (f : A → ℕ) (xs ys : List A) → total (map f (xs ++ ys)) ≡ total (map f xs) + total (map f ys)
  total-map_append f xs ys = ap total (map-append f xs ys) ∙ total-append (map f xs) (map f ys)

  pub total-map_add : (f g : A → ℕ) (xs : List A) → total (map (λ x. f x + g x) xs) ≡ total (map f xs) + total (map g xs)
  total-map_add f g [] = refl
  total-map_add f g (x ∷ xs) =
      let rest : total (map (λ y. f y + g y) xs) ≡ total (map f xs) + total (map g xs) = total-map_add f g xs in omega arith

  pub total-map_constant : (n : ℕ) (xs : List A) → total (map (λ x. n) xs) ≡ length xs * n
  total-map_constant n [] = sym (zero-mul n)
  total-map_constant n (x ∷ xs) =
      let rest : total (map (λ y. n) xs) ≡ length xs * n = total-map_constant n xs in
      let more : suc (length xs) * n ≡ length xs * n + n = suc-mul (length xs) n in
      omega arith

  -- a sum of what is not greater at any member is not greater
  pub total-map-le : (f g : A → ℕ) (xs : List A) → ((x : A) → In x xs → f x ≤ g x) → total (map f xs) ≤ total (map g xs)
  total-map-le f g [] bound = omega arith
  total-map-le f g (x ∷ xs) bound =
      let first : f x ≤ g x = bound x (inl refl) in
      let rest : total (map f xs) ≤ total (map g xs) = total-map-le f g xs (λ y here. bound y (inr here)) in
      omega arith

  -- it is smaller where one of them is
  pub total-map-lt : (f g : A → ℕ) (xs : List A) → ((x : A) → In x xs → f x ≤ g x) → (x : A) → In x xs → f x < g x → total (map f xs) < total (map g xs)
  total-map-lt f g [] bound x here lower = absurd here
  total-map-lt f g (y ∷ ys) bound x (inl same) lower =
      let first : f y < g y = subst (λ z. f z < g z) same lower in
      let rest : total (map f ys) ≤ total (map g ys) = total-map-le f g ys (λ z there. bound z (inr there)) in
      omega arith
  total-map-lt f g (y ∷ ys) bound x (inr here) lower =
      let first : f y ≤ g y = bound y (inl refl) in
      let rest : total (map f ys) < total (map g ys) = total-map-lt f g ys (λ z there. bound z (inr there)) x here lower in
      omega arith

module _ {A B : Type 0} where
  pub length-flat_map : (f : A → List B) (xs : List A) → length (flat_map f xs) ≡ total (map (λ x. length (f x)) xs)
  length-flat_map f [] = refl
  length-flat_map f (x ∷ xs) = length-append (f x) (flat_map f xs) ∙ ap (λ n. length (f x) + n) (length-flat_map f xs)
