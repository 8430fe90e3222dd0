use Rattle.verilog_expr.proofs.Bodies.{body_bits, body_own_bits, body_worth, body_absent}
use Rattle.verilog_expr.proofs.laws.expressions_of_a_body.Goals as goal

pub returns-clause-bits : goal.returns-clause-bits
returns-clause-bits c = body_bits

pub returns-clause-own_bits : goal.returns-clause-own_bits
returns-clause-own_bits c = body_own_bits

pub returns-clause-worth : goal.returns-clause-worth
returns-clause-worth c = body_worth

pub returns-clause-absent : goal.returns-clause-absent
returns-clause-absent c = body_absent
