use Rattle.std.proofs.Common.{◌≡◌, map, take}
use Rattle.hw_model.specs.Hierarchy.{callee_symbols}
use Rattle.ir_store.specs.Bodies.{ops_of}
use Rattle.ir_store.specs.Numbered.{ops_by_position}
use Rattle.ir_store.specs.Designs.{StoredModule, modules_of}
use Rattle.design_cycles.specs.Calls.{numbers_of}
use Rattle.export_verilog.specs.Called.{with_marks}
use Rattle.export_verilog.proofs.called.mark_body.Given as goal

abbrev pub invariant-loop-position : goal.invariant-loop-position
invariant-loop-position l =
    l.marks.items ≡ with_marks (numbers_of (map (λ (m : StoredModule). m.symbol) (modules_of l.design)) (callee_symbols (take l.position (ops_by_position (ops_of l.body))))) l.fn.marks.items
