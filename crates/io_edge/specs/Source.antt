-- A reader whose bytes become a text.
use Rattle.std.specs.Prelude.{◌≡◌, ℕ, ◌≤◌, List, [], ◌++◌, take, length, Option, Some, Bool, true}
use Rattle.io_edge.specs.Bytes.{Loses}

-- the text is the reader's first `limit` bytes, where those are known
abbrev pub IsPrefix : Option (List ℕ) → ℕ → List ℕ → Type 0
IsPrefix known limit text = (whole : List ℕ) → known ≡ Some whole → text ≡ take limit whole

-- one read moved at most `room` bytes from the reader to the end of the text; `ended` says that the reader has no more
pub record Moves (before after : Option (List ℕ)) (old new : List ℕ) (room : ℕ) (ended : Bool) : Type 0 where
  pub moved : List ℕ
  pub few : length moved ≤ room
  pub gained : new ≡ old ++ moved
  pub lost : Loses before after moved
  pub end : ended ≡ true → (whole : List ℕ) → before ≡ Some whole → whole ≡ []
