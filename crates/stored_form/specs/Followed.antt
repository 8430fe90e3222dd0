-- Entries of a dictionary, one after another.
use Rattle.std.specs.Prelude.{◌≡◌, true, List, [], ◌∷◌, ⊤}
use Rattle.std.specs.Ordering.{nat_cmp, is_lt}
use Rattle.std.specs.Cmp.Lexicographic.{slice_cmp}
use Rattle.hw_model.specs.Design.{Entry}

-- the key of an entry is below that of the first of others, where there is one
abbrev pub IsFollowed : Entry → List Entry → Type 0
IsFollowed e [] = ⊤
IsFollowed e (f ∷ es) = is_lt (slice_cmp nat_cmp e.key f.key) ≡ true
