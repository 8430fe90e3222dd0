use Rattle.verilog_expr.specs.Scopes.{scope_ref}
use Rattle.export_verilog.proofs.register_statements.async_reset_in.Goals as goal

pub returns : goal.returns
returns c scope = c.async_reset_of.ensures (scope_ref scope)
