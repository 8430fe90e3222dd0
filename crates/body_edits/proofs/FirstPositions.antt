-- Positions of values in lists that meet tests, and lists without the first such value.
use Rattle.std.proofs.Common.{◌≡◌, ℕ, suc, ◌+◌, ◌<◌, Bool, true, false, cond, not, List, [], ◌∷◌, length, map, Option, Some, None, refl, sym, ap, ◌∙◌, arith}
use Rattle.std.specs.Prelude.{option_map, position, nat_lt, remove, IfSome}
use Rattle.std.specs.List.{prefix_len}
use Rattle.std.proofs.lemmas.Bool.Decides.{nat_tests}
use Rattle.hw_model.specs.Design.{Ref}
use Rattle.fold_laws.specs.Fewer.{without_first}

-- the first position, by recursion
pub position_cons : {A : Type 0} (p : A → Bool) (x : A) (xs : List A) → position p (x ∷ xs) ≡ cond (p x) (Some 0) (option_map suc (position p xs))
position_cons p x xs = go (p x) (nat_lt (prefix_len (λ y. not (p y)) xs) (length xs)) refl
  where
    go : (b t : Bool) → nat_lt (prefix_len (λ y. not (p y)) xs) (length xs) ≡ t
        → cond (nat_lt (cond (not b) (1 + prefix_len (λ y. not (p y)) xs) 0) (suc (length xs))) (Some (cond (not b) (1 + prefix_len (λ y. not (p y)) xs) 0)) None
        ≡ cond b (Some 0) (option_map suc (cond t (Some (prefix_len (λ y. not (p y)) xs)) None))
    go true t is = grind (arith, nat_tests)
    go false true is = grind (arith, nat_tests)
    go false false is = grind (arith, nat_tests)

pub position-map : {A B : Type 0} (p : B → Bool) (f : A → B) (xs : List A) → position p (map f xs) ≡ position (λ x. p (f x)) xs
position-map p f [] = refl
position-map p f (x ∷ xs) =
    position_cons p (f x) (map f xs)
    ∙ ap (λ o. cond (p (f x)) (Some 0) (option_map suc o)) (position-map p f xs)
    ∙ sym (position_cons (λ y. p (f y)) x xs)

pub position_within : {A : Type 0} (p : A → Bool) (xs : List A) → IfSome (position p xs) (λ k. k < length xs)
position_within p xs = go (nat_lt (prefix_len (λ y. not (p y)) xs) (length xs)) refl
  where
    go : (t : Bool) → nat_lt (prefix_len (λ y. not (p y)) xs) (length xs) ≡ t → IfSome (cond t (Some (prefix_len (λ y. not (p y)) xs)) None) (λ k. k < length xs)
    go true is = grind (arith, nat_tests)
    go false is = tt

-- ---- the first value that meets a test goes

pub first_goes : (test : Ref → Bool) (xs : List Ref) → option_map (λ k. remove xs k) (position test xs) ≡ without_first test xs
first_goes test [] = refl
first_goes test (x ∷ xs) = ap (option_map (λ k. remove (x ∷ xs) k)) (position_cons test x xs) ∙ go (test x) (position test xs) (first_goes test xs)
  where
    go : (b : Bool) (o : Option ℕ) → option_map (λ k. remove xs k) o ≡ without_first test xs
        → option_map (λ k. remove (x ∷ xs) k) (cond b (Some 0) (option_map suc o)) ≡ cond b (Some xs) (option_map (λ (ys : List Ref). x ∷ ys) (without_first test xs))
    go true o is = refl
    go false None is = ap (option_map (λ (ys : List Ref). x ∷ ys)) is
    go false (Some k) is = ap (option_map (λ (ys : List Ref). x ∷ ys)) is
