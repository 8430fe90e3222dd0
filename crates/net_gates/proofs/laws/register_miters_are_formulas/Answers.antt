use Rattle.net_gates.proofs.StepLaw.{step_few, step_formula_clauses}
use Rattle.net_gates.proofs.laws.register_miters_are_formulas.Goals as goal

pub returns : goal.returns
returns c = record {
  gates = λ inputs content a b fa fb same x q ex eq one two. step_few a b inputs content fa fb same x q ex eq one two;
  clauses = λ inputs content a b fa fb same. step_formula_clauses a b inputs content fa fb same;
}
