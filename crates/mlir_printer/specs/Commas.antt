-- Lists with commas between their items.
use Rattle.std.specs.Prelude.{ℕ, ◌+◌, cond, ◌==◌, List, [], ◌∷◌, ◌++◌, codes}

-- a comma before what is not the first
unfoldable pub comma_bytes : ℕ → List ℕ
comma_bytes i = cond (i == 0) [] (codes ", ")

-- items with commas between them, of which the first has this number
abbrev pub items_from : {A : Type 0} → (A → List ℕ) → ℕ → List A → List ℕ
items_from bytes i [] = []
items_from bytes i (x ∷ xs) = comma_bytes i ++ (bytes x ++ items_from bytes (i + 1) xs)

-- items with commas between them
abbrev pub commas : {A : Type 0} → (A → List ℕ) → List A → List ℕ
commas bytes xs = items_from bytes 0 xs
