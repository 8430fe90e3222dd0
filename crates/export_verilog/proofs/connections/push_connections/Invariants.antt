use Rattle.std.proofs.Common.{◌≡◌, ◌≤◌, [], ◌++◌, map}
use Rattle.hw_model.specs.Design.Ref.{result}
use Rattle.ir_store.specs.Designs.{port_of}
use Rattle.ir_store.specs.Numbered.{position_of}
use Rattle.verilog_expr.specs.Scopes.{scope_ids, scope_ref}
use Rattle.verilog_expr.specs.Named.{named_of}
use Rattle.export_verilog.specs.Lowerings.{own_place}
use Rattle.export_verilog.specs.Identifiers.{name_or_nothing}
use Rattle.export_verilog.specs.Values.{value_expr}
use Rattle.export_verilog.specs.Written.{connections_left}
use Rattle.export_verilog.specs.Joined.{connections_from}
use Rattle.export_verilog.proofs.text.Joining.{joined_left}
use Rattle.export_verilog.proofs.connections.push_connections.Given as goal

abbrev pub invariant-loop-j : goal.invariant-loop-j
invariant-loop-j l = record {
  bytes : l.out ++ joined_left port_of (scope_ref l.writer.scope) (value_expr l.writer.scope l.writer.names.values (own_place l.writer.options))
      (λ k. name_or_nothing (named_of l.writer.names.values (result (position_of (scope_ids l.writer.scope) l.id.index) k)))
      l.port_names l.ports l.operands l.j l.results l.inputs
      ≡ l.initial.out ++ connections_left (connections_from (value_expr l.writer.scope l.writer.names.values (own_place l.writer.options))
      (λ k. name_or_nothing (named_of l.writer.names.values (result (position_of (scope_ids l.writer.scope) l.id.index) k)))
      0 l.port_names (map port_of l.ports) (map (scope_ref l.writer.scope) l.operands)) [];
  results : l.results ≤ l.j;
  inputs : l.inputs ≤ l.j;
}
