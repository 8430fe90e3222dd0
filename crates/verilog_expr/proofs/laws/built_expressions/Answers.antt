use Rattle.verilog_expr.proofs.Built.{built_bits, built_worth}
use Rattle.verilog_expr.proofs.laws.built_expressions.Goals as goal

pub returns-clause-bits : goal.returns-clause-bits
returns-clause-bits c = built_bits

pub returns-clause-worth : goal.returns-clause-worth
returns-clause-worth c = built_worth
