use Rattle.verilog_expr.proofs.Depths.{expressions_hold}
use Rattle.verilog_expr.proofs.laws.expressions_hold.Goals as goal

pub returns : goal.returns
returns c = expressions_hold
