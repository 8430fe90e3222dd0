use Rattle.net_gates.proofs.MiterLaw.{miter_few, formula_of_clauses}
use Rattle.net_gates.proofs.laws.miters_are_formulas.Goals as goal

pub returns : goal.returns
returns c = record {
  gates = λ inputs content a b fa fb same x q ρ σ ex eq ra rb. miter_few a b inputs content fa fb same x q ex eq ρ σ ra rb;
  clauses = λ inputs content a b fa fb same. formula_of_clauses a b inputs content fa fb same;
}
