use Rattle.ir_store.specs.Designs.{design_of}
use Rattle.design_cycles.specs.Calls.{call_lists}
use Rattle.export_verilog.proofs.items.Marks.{HasMarks}
use Rattle.export_verilog.proofs.called.called_modules.Given as goal

abbrev pub invariant-loop-number : goal.invariant-loop-number
invariant-loop-number l = HasMarks (call_lists (design_of l.design)) l.number l.marks.items
