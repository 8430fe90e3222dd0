use Rattle.gates.proofs.Tseitin.{true_from_kept, kept_from_true, clauses_are_clauses}
use Rattle.gates.proofs.laws.clauses_say_gates.Goals as goal

pub returns : goal.returns
returns c = record {
  kept = λ m n gates. (kept_from_true m n gates, true_from_kept m n gates);
  clauses = λ n variables gates order more. clauses_are_clauses n variables gates order more;
}
