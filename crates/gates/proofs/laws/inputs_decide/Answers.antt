use Rattle.gates.proofs.Evaluation.{evaluated_keeps, kept_is_evaluated}
use Rattle.gates.proofs.laws.inputs_decide.Goals as goal

pub returns : goal.returns
returns c = record {
  kept = λ x gates order. evaluated_keeps x gates order;
  one = λ x rest gates order size kept. kept_is_evaluated x rest gates order size kept;
}
