-- Lists of numbers as runs: so many times one number, then so many times another one.
use Rattle.std.specs.Prelude.{◌≡◌, ℕ, zero, suc, ◌≤◌, Bool, MatchBool, List, [], ◌∷◌, ◌++◌, replicate}
use Rattle.run_lists.specs.declared.runs.Run.{Run}

-- the numbers of runs
abbrev pub expanded : List Run → List ℕ
expanded [] = []
expanded (r ∷ rs) = replicate r.count r.number ++ expanded rs

-- a list so many times over
abbrev pub many : ℕ → List ℕ → List ℕ
many zero xs = []
many (suc n) xs = xs ++ many n xs

-- the first run, where there is one, is of another number
abbrev pub BeginsApart : ℕ → List Run → Type 0
BeginsApart n [] = Unit {0}
BeginsApart n (r ∷ rs) = n ≡ r.number → ⊥

-- no run is empty, and none is of the number of the one before it
abbrev pub AreApart : List Run → Type 0
AreApart [] = Unit {0}
AreApart (r ∷ rs) = (1 ≤ r.count) × BeginsApart r.number rs × AreApart rs

-- so are the runs, and these are their numbers
pub record AreRunsOf (ns : List ℕ) (rs : List Run) : Type 0 where
  pub numbers : expanded rs ≡ ns
  pub apart : AreApart rs

-- a fact holds exactly where a test does
abbrev pub Tells : Bool → Type 0 → Type 0
Tells b P = MatchBool b P (P → ⊥)
