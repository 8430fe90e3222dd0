-- The text of a design, module by module.
use Rattle.hw_model.specs.Types.{Name}
use Rattle.hw_model.specs.Design.{Module, Design}
use Rattle.verilog_model.specs.Tree.{VModule}
use Rattle.lowering_options.specs.declared.lowering.Lowering.{Lowering}
use Rattle.export_verilog.specs.Exported.{vports, vitems}

-- a module of a design, under a name (IEEE 1364-2005, 12.1: modules)
abbrev pub module_under : Lowering → Design → Name → Module → VModule
module_under l d n m = record { name = n; ports = vports m; items = vitems l d m }
