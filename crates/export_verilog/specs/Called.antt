-- Marks of the modules that instances call, by the modules' numbers.
use Rattle.std.specs.Prelude.{ℕ, Bool, true, List, [], ◌∷◌, slice_set}

-- the marks, with those of some numbers set; a number past the end has none
abbrev pub with_marks : List ℕ → List Bool → List Bool
with_marks [] marks = marks
with_marks (n ∷ ns) marks = with_marks ns (slice_set marks n true)
