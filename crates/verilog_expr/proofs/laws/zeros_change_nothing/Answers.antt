use Rattle.verilog_expr.proofs.Bodies.{body_assigned, body_own_assigned, body_asked}
use Rattle.verilog_expr.proofs.laws.zeros_change_nothing.Goals as goal

pub returns-clause-assigned : goal.returns-clause-assigned
returns-clause-assigned c = body_assigned

pub returns-clause-own_assigned : goal.returns-clause-own_assigned
returns-clause-own_assigned c = body_own_assigned

pub returns-clause-asked : goal.returns-clause-asked
returns-clause-asked c = body_asked
