use Rattle.verilog_expr.specs.Scopes.{scope_ref}
use Rattle.export_verilog.proofs.register_statements.register_in.Goals as goal

pub returns : goal.returns
returns c scope = c.register_of.ensures (scope_ref scope)
