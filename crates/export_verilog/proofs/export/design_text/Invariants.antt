use Rattle.std.proofs.Common.{◌≡◌, ◌++◌, map, drop}
use Rattle.ir_store.specs.Designs.{design_of}
use Rattle.export_verilog.specs.Exported.{vmodule}
use Rattle.export_verilog.specs.Layout.{verilog_text}
use Rattle.export_verilog.proofs.text.ModuleParts.{modules_left}
use Rattle.export_verilog.proofs.export.design_text.Given as goal

abbrev pub invariant-loop-number : goal.invariant-loop-number
invariant-loop-number l =
    l.out ++ modules_left l.number (map (vmodule l.options (design_of l.all.design.now)) (drop l.number (design_of l.all.design.now))) ≡ verilog_text l.options (design_of l.all.design.now)
