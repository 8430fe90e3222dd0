-- Sums of widths of types, each width counted up to a limit (CIRCT, HW dialect: types).
use Rattle.std.specs.Prelude.{ℕ, ◌+◌, min, List, [], ◌∷◌}
use Rattle.hw_model.specs.Types.{HwType, width}

-- the sum, each width counted as the greatest number of 64 bits at most
abbrev pub counted_width : List HwType → ℕ
counted_width [] = 0
counted_width (t ∷ ts) = min (width t) 0xffff_ffff_ffff_ffff + counted_width ts
