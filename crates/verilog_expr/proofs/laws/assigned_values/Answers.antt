use Rattle.verilog_expr.proofs.Assigned.{assigned_same, assigned_in, assigned_long}
use Rattle.verilog_expr.proofs.laws.assigned_values.Goals as goal

pub returns-clause-same : goal.returns-clause-same
returns-clause-same c = assigned_same

pub returns-clause-within : goal.returns-clause-within
returns-clause-within c = assigned_in

pub returns-clause-long : goal.returns-clause-long
returns-clause-long c = assigned_long
