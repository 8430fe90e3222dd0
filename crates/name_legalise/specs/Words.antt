-- Words by their first letters.
use Rattle.std.specs.Prelude.{ℕ, Bool, true, false, ◌&&◌, ◌==◌, List, [], ◌∷◌, ◌++◌}
use Rattle.hw_model.specs.Types.{Name}

-- a letter, and words
pub record Lettered : Type 0 where
  pub letter : ℕ
  pub words : List Name

abbrev pub begins_with : ℕ → Name → Bool
begins_with letter [] = false
begins_with letter (b ∷ bs) = b == letter

-- each word begins with a letter
abbrev pub all_begin : ℕ → List Name → Bool
all_begin letter [] = true
all_begin letter (w ∷ ws) = begins_with letter w && all_begin letter ws

-- in each group the words begin with its letter
abbrev pub groups_begin : List Lettered → Bool
groups_begin [] = true
groups_begin (g ∷ gs) = all_begin g.letter g.words && groups_begin gs

-- the words of all groups
abbrev pub words_in : List Lettered → List Name
words_in [] = []
words_in (g ∷ gs) = g.words ++ words_in gs
