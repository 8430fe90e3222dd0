-- One more file that was read.
use Rattle.std.proofs.Common.{◌≡◌, ℕ, zero, suc, ◌+◌, ◌<◌, ◌≤◌, inl, inr, List, [], ◌∷◌, ◌++◌, length, take, get_or, map, Result, Ok, refl, sym, ◌∙◌, ap, subst, take-suc, arith}
use Rattle.wiring.specs.Wiring.{In}
use Rattle.hw_model.specs.Types.{Name}
use Rattle.io_edge.specs.declared.file_access.FileFail.{FileFail}
use Rattle.io_edge.specs.Faults.{HasRisen}
use Rattle.io_edge.specs.Reading.{Reads}
use Rattle.circt_top.specs.Inputs.{Told, read_limit, AreReads, HasRead}

module _ {F : Type 0} (reads : F → Name → ℕ → Result (List ℕ) FileFail → F → Type 0) (files : F → Told) where
  pub read_more : (before between after : F) (names : List Name) (sources : List (List ℕ)) (name : Name) (source : List ℕ)
      → HasRead reads files before names sources between → reads between name read_limit (Ok source) after → files after ≡ files between
      → HasRead reads files before (names ++ name ∷ []) (sources ++ source ∷ []) after
  read_more before between after [] [] name source h step same = (after, subst (λ f. reads f name read_limit (Ok source) after) h step, subst (λ f. files after ≡ files f) h same, refl)
  read_more before between after [] (s ∷ sources) name source h step same = absurd h
  read_more before between after (n ∷ names) [] name source h step same = absurd h
  read_more before between after (n ∷ names) (s ∷ sources) name source h step same =
      (h.0, h.1, h.2, read_more h.0 between after names sources name source h.3 step same)

pub told_more : (told : Told) (names : List Name) (sources : List (List ℕ)) (name : Name) (source : List ℕ) → AreReads told names sources → Reads told name read_limit (Ok source)
    → AreReads told (names ++ name ∷ []) (sources ++ source ∷ [])
told_more told [] [] name source h read = (read, tt)
told_more told [] (s ∷ sources) name source h read = absurd h
told_more told (n ∷ names) [] name source h read = absurd h
told_more told (n ∷ names) (s ∷ sources) name source h read = (h.0, told_more told names sources name source h.1 read)

-- a count that rose later rose
pub risen_later : (before between after : ℕ) → before ≤ between → HasRisen between after → HasRisen before after
risen_later before between after kept risen = omega (arith, kept, risen)

-- the names of the first files and one more
pub names_more : {A B : Type 0} (f : A → B) (xs : List A) (i : ℕ) (x : A) → i < length xs → x ≡ get_or xs i x → map f (take (i + 1) xs) ≡ map f (take i xs) ++ f x ∷ []
names_more f xs i x within is =
    let on : i + 1 ≡ suc i = omega arith in
    let one : take (i + 1) xs ≡ take i xs ++ x ∷ [] = ap (λ n. take n xs) on ∙ take-suc xs i x within ∙ ap (λ z. take i xs ++ z ∷ []) (sym is) in
    ap (map f) one ∙ map_joined (take i xs) where
      map_joined : (ys : List _) → map f (ys ++ x ∷ []) ≡ map f ys ++ f x ∷ []
      map_joined [] = refl
      map_joined (y ∷ ys) = ap (λ zs. f y ∷ zs) (map_joined ys)

-- a file is one of them
named_in : {A : Type 0} (f : A → Name) (xs : List A) (i : ℕ) (d : A) → i < length xs → In (f (get_or xs i d)) (map f xs)
named_in f [] i d within = absurd (omega (arith, within))
named_in f (x ∷ xs) zero d within = inl refl
named_in f (x ∷ xs) (suc i) d within = inr (named_in f xs i d (omega (arith, within)))

pub named_at : {A : Type 0} (f : A → Name) (xs : List A) (i : ℕ) (x : A) → i < length xs → x ≡ get_or xs i x → In (f x) (map f xs)
named_at f xs i x within is = subst (λ y. In (f y) (map f xs)) (sym is) (named_in f xs i x within)

-- counts that never fall
pub still_at_least : (before between after : ℕ) → before ≤ between → between ≤ after → before ≤ after
still_at_least before between after first second = omega (arith, first, second)
