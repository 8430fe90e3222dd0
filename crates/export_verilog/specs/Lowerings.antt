-- How zero extensions are written: with their zeros, or as their operand alone where the context gives the full width, as an
-- assignment and a load do to their right sides (IEEE 1364-2005, 5.4.1).
use Rattle.verilog_expr.specs.declared.extending.Extending.{Extending}
use Rattle.verilog_expr.specs.declared.extending.Extending.TheVariants.{Off, Own, Given}
use Rattle.lowering_options.specs.declared.lowering.Lowering.{Lowering}
use Rattle.lowering_options.specs.declared.lowering.Lowering.TheVariants.{Plain, ImplicitExtension}

-- on the right side of an assignment or of a load
abbrev pub load_place : Lowering → Extending
load_place Plain = Off
load_place ImplicitExtension = Given

-- in a condition, and in what a port of an instance is joined to
abbrev pub own_place : Lowering → Extending
own_place Plain = Off
own_place ImplicitExtension = Own
