-- Prefixes of a text that end within a line.
use Rattle.std.specs.Prelude.{◌≡◌, ℕ, ◌≤◌, List, take, length}
use Rattle.diag.specs.Location.{location_after, further}
use Rattle.diag.specs.declared.refusal.Location.{Location}

-- the first `count` bytes, of which there is one at least, hold no end of a line: after them the column is so much greater
pub record IsWithinLine (count : ℕ) (bytes : List ℕ) : Type 0 where
  pub some : 1 ≤ count
  pub within : count ≤ length bytes
  pub along : (location : Location) → location_after location (take count bytes) ≡ further location count
