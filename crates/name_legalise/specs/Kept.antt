-- What a table keeps of names that are taken, and of those among them that are legal.
use Rattle.std.specs.Prelude.{◌≡◌, ℕ, ◌+◌, ◌<◌, ◌≤◌, cond, List, [], ◌∷◌, ◌++◌, length, Some, slice_get, get_or}
use Rattle.hw_model.specs.Types.{Name}
use Rattle.fresh_names.specs.Fresh.{is_taken, free_name}
use Rattle.verilog_model.specs.Reserved.{reserved_words}

-- the names at positions
abbrev pub names_at : List Name → List ℕ → List Name
names_at names [] = []
names_at names (i ∷ is) = get_or names i [] ∷ names_at names is

-- what is taken or reserved by some names is so by others
abbrev pub AreTakenAlike : List Name → List Name → Type 0
AreTakenAlike some others = (name : Name) → is_taken (reserved_words ++ some) name ≡ is_taken (reserved_words ++ others) name

-- how many of some words are taken
abbrev pub taken_count : List Name → List Name → ℕ
taken_count taken [] = 0
taken_count taken (w ∷ ws) = cond (is_taken taken w) 1 0 + taken_count taken ws

-- names that are taken, with the positions of the legal ones: all others are reserved words
pub record IsTable (taken : List Name) (positions : List ℕ) : Type 0 where
  pub within : (i position : ℕ) → slice_get positions i ≡ Some position → position < length taken
  pub alike : AreTakenAlike taken (names_at taken positions)
  pub few : length taken ≤ length positions + taken_count taken reserved_words

-- names that are taken, and a reserved word that would be the free name of a wanted one
unfoldable pub with_reserved : List Name → Name → List Name
with_reserved taken wanted = cond (is_taken reserved_words (free_name taken wanted)) (taken ++ free_name taken wanted ∷ []) taken
