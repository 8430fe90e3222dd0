-- A text that is being read: its bytes, and how many are read.
use Rattle.std.specs.Prelude.{ℕ, List}

pub record Cursor : Type 0 where
  pub source : List ℕ
  pub at : ℕ
