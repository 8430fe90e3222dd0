-- The lines of a text.
use Rattle.std.specs.Prelude.{◌≡◌, ℕ, Bool, true, false, ◌&&◌, ◌==◌, not, List, [], ◌∷◌, ◌++◌}

-- whether no byte is a line feed
abbrev pub is_quiet : List ℕ → Bool
is_quiet [] = true
is_quiet (b ∷ bs) = not (b == 10) && is_quiet bs

-- whether bytes begin with `/`
abbrev pub begins_slash : List ℕ → Bool
begins_slash [] = false
begins_slash (b ∷ bs) = b == 47

-- a line without its line feed, which begins with no `/`
pub record IsLine (line : List ℕ) : Type 0 where
  pub quiet : is_quiet line ≡ true
  pub begins : begins_slash line ≡ false

abbrev pub AreLines : List (List ℕ) → Type 0
AreLines [] = Unit {0}
AreLines (line ∷ lines) = IsLine line × AreLines lines

-- lines, each with a line feed after it
abbrev pub ended : List (List ℕ) → List ℕ
ended [] = []
ended (line ∷ lines) = line ++ (10 ∷ ended lines)

-- the text is whole lines, of which none begins with `/`
pub record HasLines (text : List ℕ) : Type 0 where
  pub lines : List (List ℕ)
  pub are : AreLines lines
  pub is : text ≡ ended lines
