use Rattle.std.proofs.Common.{◌≡◌, ◌++◌, drop}
use Rattle.name_legalise.specs.Legal.{legal_after}
use Rattle.name_legalise.specs.LegalViews.{legal_names}
use Rattle.verilog_expr.specs.Scopes.{scope_ports, scope_ops}
use Rattle.export_verilog.specs.Held.{op_results, op_own_name}
use Rattle.export_verilog.specs.Walks.{body_name_hints, body_given, result_lists}
use Rattle.export_verilog.proofs.body_names.add_ops.Given as goal

abbrev pub invariant-loop-position : goal.invariant-loop-position
invariant-loop-position l = record {
  names : legal_names l.names ++ legal_after (legal_names l.names) (body_name_hints (scope_ports l.scope) (scope_ops l.scope) l.position (drop l.position (scope_ops l.scope)))
      ≡ legal_names l.initial.names ++ legal_after (legal_names l.initial.names) (body_name_hints (scope_ports l.scope) (scope_ops l.scope) 0 (scope_ops l.scope));
  results : result_lists l.values ++ body_given op_results (scope_ports l.scope) (scope_ops l.scope) (legal_names l.names) l.position (drop l.position (scope_ops l.scope))
      ≡ result_lists l.initial.values ++ body_given op_results (scope_ports l.scope) (scope_ops l.scope) (legal_names l.initial.names) 0 (scope_ops l.scope);
  ports : l.values.ports ≡ l.initial.values.ports;
  own : l.own.items ++ body_given op_own_name (scope_ports l.scope) (scope_ops l.scope) (legal_names l.names) l.position (drop l.position (scope_ops l.scope))
      ≡ body_given op_own_name (scope_ports l.scope) (scope_ops l.scope) (legal_names l.initial.names) 0 (scope_ops l.scope);
}
