use Rattle.verilog_expr.specs.Parentheses.{tight}
use Rattle.verilog_expr.proofs.Carried.{own_carried, depth_carried, body_carried}
use Rattle.verilog_expr.proofs.Tight.{left_out, built_tight, tight_carried}
use Rattle.verilog_expr.proofs.laws.parentheses_are_needed.Goals as goal

pub returns-clause-left_out : goal.returns-clause-left_out
returns-clause-left_out c = left_out

pub returns-clause-kind_expr : goal.returns-clause-kind_expr
returns-clause-kind_expr c = built_tight

pub returns-clause-body : goal.returns-clause-body
returns-clause-body c = body_carried tight tight_carried

pub returns-clause-depth : goal.returns-clause-depth
returns-clause-depth c = depth_carried tight tight_carried

pub returns-clause-own : goal.returns-clause-own
returns-clause-own c = own_carried tight tight_carried
