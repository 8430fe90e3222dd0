-- Names by their numbers.
use Rattle.std.proofs.Common.{◌≡◌, ℕ, zero, suc, ◌+◌, ◌-◌, ◌<◌, ◌≤◌, List, [], ◌∷◌, ◌++◌, map, length, drop, get_or, refl, sym, ap, ◌∙◌, arith}
use Rattle.std.proofs.lemmas.Bool.{ltb-true, ltb-false}
use Rattle.std.proofs.Math.Seq.{drop-nil}
use Rattle.std.specs.Prelude.{Bool, true, false, nat_lt, Some, slice_get}
use Rattle.hw_model.specs.Types.{Name}
use Rattle.mlir_printer.specs.Commas.{comma_bytes, items_from}
use Rattle.mlir_printer.specs.Naming.{first_name, firsts}
use Rattle.mlir_printer.proofs.steps.Steps.{added}

some_is : {A : Type 0} (x y : A) → Some x ≡ Some y → x ≡ y
some_is x y e = cc

pub mapped_at : {A B : Type 0} (f : A → B) (xs : List A) (i : ℕ) (d : A) → i < length xs → slice_get (map f xs) i ≡ Some (f (get_or xs i d))
mapped_at f [] i d lt = absurd (omega (arith, lt))
mapped_at f (x ∷ xs) zero d lt = refl
mapped_at f (x ∷ xs) (suc i) d lt = mapped_at f xs i d (omega (arith, lt))

-- the name of a number
pub first_at : (n : ℕ) (xs : List Name) (x : Name) → Some x ≡ slice_get xs n → x ≡ first_name (drop n xs)
first_at zero [] x e = cc
first_at (suc n) [] x e = cc
first_at zero (y ∷ ys) x e = some_is x y e
first_at (suc n) (y ∷ ys) x e = first_at n ys x e

pub none_after : (n : ℕ) (xs : List Name) → length xs ≤ n → [] ≡ first_name (drop n xs)
none_after zero [] le = refl
none_after (suc n) [] le = refl
none_after zero (x ∷ xs) le = absurd (omega (arith, le))
none_after (suc n) (x ∷ xs) le = none_after n xs (omega (arith, le))

pub drop_one : {A : Type 0} (n : ℕ) (xs : List A) → drop 1 (drop n xs) ≡ drop (n + 1) xs
drop_one zero [] = refl
drop_one zero (x ∷ xs) = refl
drop_one (suc n) [] = sym (drop-nil (suc n + 1))
drop_one (suc n) (x ∷ xs) = let e : suc (n + 1) ≡ suc n + 1 = omega arith in drop_one n xs ∙ ap (λ k. drop k (x ∷ xs)) e

-- the name at a position is added
pub names_step : (f : Name → List ℕ) (count first i : ℕ) (xs : List Name) (x : Name) (out one two whole : List ℕ) → i < count → x ≡ first_name (drop (first + i) xs)
    → out ++ items_from f i (firsts (count - i) (drop (first + i) xs)) ≡ whole → one ≡ out ++ comma_bytes i → two ≡ one ++ f x
    → two ++ items_from f (i + 1) (firsts (count - (i + 1)) (drop (first + (i + 1)) xs)) ≡ whole
names_step f count first i xs x out one two whole lt at inv e1 e2 =
    let k : count - i ≡ suc (count - (i + 1)) = omega arith in
    let j : first + i + 1 ≡ first + (i + 1) = omega arith in
    let d : firsts (count - i) (drop (first + i) xs) ≡ x ∷ firsts (count - (i + 1)) (drop (first + (i + 1)) xs) =
    ap (λ m. firsts m (drop (first + i) xs)) k
    ∙ ap (λ y. y ∷ firsts (count - (i + 1)) (drop 1 (drop (first + i) xs))) (sym at)
    ∙ ap (λ l. x ∷ firsts (count - (i + 1)) l) (drop_one (first + i) xs ∙ ap (λ m. drop m xs) j) in
    added out one two (comma_bytes i) (f x) (items_from f (i + 1) (firsts (count - (i + 1)) (drop (first + (i + 1)) xs))) whole
    (sym (ap (λ l. out ++ items_from f i l) d) ∙ inv) e1 e2

prefix_at : {A B : Type 0} (f : A → B) (xs : List A) (x : A) (i : ℕ) → i < length xs → slice_get (map f (xs ++ x ∷ [])) i ≡ slice_get (map f xs) i
prefix_at f [] x i lt = absurd (omega (arith, lt))
prefix_at f (y ∷ ys) x zero lt = refl
prefix_at f (y ∷ ys) x (suc i) lt = prefix_at f ys x i (omega (arith, lt))

last_at : {A B : Type 0} (f : A → B) (xs : List A) (x : A) → slice_get (map f (xs ++ x ∷ [])) (length xs) ≡ Some (f x)
last_at f [] x = refl
last_at f (y ∷ ys) x = last_at f ys x

-- items that are known by their positions, and one more
pub known_push : {A B : Type 0} (f : A → B) (g : ℕ → B) (xs : List A) (x : A) → ((i : ℕ) → i < length xs → slice_get (map f xs) i ≡ Some (g i)) → f x ≡ g (length xs)
    → (i : ℕ) → i < length xs + 1 → slice_get (map f (xs ++ x ∷ [])) i ≡ Some (g i)
known_push f g xs x known e i lt = go (nat_lt i (length xs)) refl
  where
    go : (b : Bool) → nat_lt i (length xs) ≡ b → slice_get (map f (xs ++ x ∷ [])) i ≡ Some (g i)
    go true t = prefix_at f xs x i (ltb-true i (length xs) t) ∙ known i (ltb-true i (length xs) t)
    go false t =
        let same : length xs ≡ i = omega (arith, ltb-false i (length xs) t, lt) in
        ap (λ k. slice_get (map f (xs ++ x ∷ [])) k) (sym same) ∙ last_at f xs x ∙ ap (λ y. Some y) e ∙ ap (λ k. Some (g k)) same

pub not_below : (n : ℕ) → (n < 18446744073709551616 → ⊥) → 18446744073709551616 ≤ n
not_below n h = go (nat_lt n 18446744073709551616) refl
  where
    go : (b : Bool) → nat_lt n 18446744073709551616 ≡ b → 18446744073709551616 ≤ n
    go true t = absurd (h (ltb-true n 18446744073709551616 t))
    go false t = ltb-false n 18446744073709551616 t
