use Rattle.std.proofs.Common.{◌≡◌, ◌++◌}
use Rattle.ir_store.specs.Numbered.{position_of}
use Rattle.verilog_expr.specs.Scopes.{scope_ids}
use Rattle.export_verilog.proofs.text.ValueWires.{wires_left}
use Rattle.export_verilog.proofs.declarations.push_wires.Given as goal

abbrev pub invariant-loop-number : goal.invariant-loop-number
invariant-loop-number l =
    let i = position_of (scope_ids l.writer.scope) l.id.index in
    l.out ++ wires_left l.writer.scope l.writer.names.values i l.number l.count ≡ l.initial.out ++ wires_left l.writer.scope l.writer.names.values i 0 l.count
