use Rattle.verilog_expr.proofs.Heights.{heights_hold}
use Rattle.verilog_expr.proofs.laws.heights_hold.Goals as goal

pub returns : goal.returns
returns c = heights_hold
