-- Names that are not taken yet.
use Rattle.std.specs.Prelude.{ℕ, zero, suc, ◌+◌, Bool, true, false, cond, nat_eq, List, [], ◌∷◌, ◌++◌, length, decimal}
use Rattle.std.specs.Cmp.Lexicographic.{pointwise}

abbrev pub Name : Type 0
Name = List ℕ

-- whether a name is taken
abbrev pub is_taken : List Name → Name → Bool
is_taken [] name = false
is_taken (t ∷ ts) name = cond (pointwise nat_eq t name) true (is_taken ts name)

-- the name, `_`, and a number
unfoldable pub with_suffix : Name → ℕ → Name
with_suffix wanted k = wanted ++ (95 ∷ decimal k)

-- the first of the suffixed names from a number on that is not taken, among so many
abbrev pub free_from : List Name → Name → ℕ → ℕ → Name
free_from taken wanted zero k = with_suffix wanted k
free_from taken wanted (suc n) k = cond (is_taken taken (with_suffix wanted k)) (free_from taken wanted n (k + 1)) (with_suffix wanted k)

-- the wanted name, or the first of its suffixed names that is not taken
unfoldable pub free_name : List Name → Name → Name
free_name taken wanted = cond (is_taken taken wanted) (free_from taken wanted (length taken) 0) wanted

-- names that are wanted in turn: each gets its free name, which is then taken
abbrev pub fresh : List Name → List Name → List Name
fresh taken [] = []
fresh taken (w ∷ ws) = free_name taken w ∷ fresh (taken ++ free_name taken w ∷ []) ws
