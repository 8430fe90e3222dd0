-- Locations in a text: lines end with LF, and a column is counted in bytes.
use Rattle.std.specs.Prelude.{ℕ, ◌+◌, ◌-◌, ◌^◌, ◌==◌, min, List, [], ◌∷◌, take, if◌then◌else◌}
use Rattle.diag.specs.declared.refusal.Location.{Location}

-- the location of the first byte
abbrev pub start_location : Location
start_location = record { line = 1; col = 1 }

-- `count` bytes further on the same line
abbrev pub further : Location → ℕ → Location
further location count = record { line = location.line; col = min (location.col + count) (2 ^ 32 - 1) }

-- the first byte of the next line
abbrev pub below : Location → Location
below location = record { line = min (location.line + 1) (2 ^ 32 - 1); col = 1 }

-- the location of the byte after this one
abbrev pub next_location : Location → ℕ → Location
next_location location byte = if byte == 10 then below location else further location 1

-- the location of the byte after these ones
abbrev pub location_after : Location → List ℕ → Location
location_after location [] = location
location_after location (byte ∷ bytes) = location_after (next_location location byte) bytes

-- the location of the byte at a position of a text
abbrev pub location_of : List ℕ → ℕ → Location
location_of source at = location_after start_location (take at source)
