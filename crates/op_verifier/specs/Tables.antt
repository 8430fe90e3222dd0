-- Tables of positions by ids.
use Rattle.std.specs.Prelude.{◌≡◌, ℕ, List, length, slice_index_or}
use Rattle.ir_store.specs.Numbered.{position_of}

-- the table gives the position of each id; of one that is not there, the number of ids
abbrev pub IsTable : List ℕ → List ℕ → Type 0
IsTable table ids = (q : ℕ) → slice_index_or table q (length ids) ≡ position_of ids q
