-- The widths of the leaves of a flat module.
use Rattle.std.specs.Prelude.{ℕ, List, map}
use Rattle.std.specs.List.{filter}
use Rattle.hw_model.specs.Types.{width}
use Rattle.hw_model.specs.Design.{Port, Op, is_register}
use Rattle.hw_model.specs.Flat.{held_width}
use Rattle.hw_model.specs.Sound.{input_types}

-- of its registers, in order
abbrev pub held_widths : List Op → List ℕ
held_widths os = map held_width (filter is_register os)

-- of the inputs among its ports, in order
abbrev pub input_widths : List Port → List ℕ
input_widths ps = map width (input_types ps)
