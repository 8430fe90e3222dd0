-- The module that a scope is of, as far as the names of its things and its text ask.
use Rattle.std.specs.Prelude.{false, []}
use Rattle.hw_model.specs.Design.{Module}
use Rattle.verilog_expr.specs.Scopes.{scope_ports, scope_ops}
use Rattle.verilog_expr.specs.declared.scope.Scope.{Scope}

-- a module with the ports and the operations of a scope
abbrev pub scope_module : Scope → Module
scope_module s = record {
  symbol = [];
  is_private = false;
  ports = scope_ports s;
  dictionary = [];
  body = scope_ops s;
  location = record { line = 0; col = 0 };
}
