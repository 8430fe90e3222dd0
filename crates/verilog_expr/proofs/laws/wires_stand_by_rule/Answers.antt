use Rattle.verilog_expr.proofs.ByRule.{computed_rule, constant_rule, others_rule, names_rule, heights_rule, limit_rule}
use Rattle.verilog_expr.proofs.laws.wires_stand_by_rule.Goals as goal

pub returns-clause-computed : goal.returns-clause-computed
returns-clause-computed c = computed_rule

pub returns-clause-constants : goal.returns-clause-constants
returns-clause-constants c = constant_rule

pub returns-clause-others : goal.returns-clause-others
returns-clause-others c = others_rule

pub returns-clause-names : goal.returns-clause-names
returns-clause-names c = names_rule

pub returns-clause-heights : goal.returns-clause-heights
returns-clause-heights c = heights_rule

pub returns-clause-limit : goal.returns-clause-limit
returns-clause-limit c = limit_rule
