-- Room for the names of a design's modules: they are told apart by numbers of a machine.
use Rattle.std.specs.Prelude.{◌+◌, ◌<◌, ◌^◌, length}
use Rattle.hw_model.specs.Design.{Design}

-- the modules are fewer than a machine counts, with room for each reserved word of Verilog
abbrev pub HasRoomToExport : Design → Type 0
HasRoomToExport d = length d + 130 < 2 ^ 64
