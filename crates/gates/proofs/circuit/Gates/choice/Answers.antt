use Rattle.gates.specs.Build.{choice}
use Rattle.gates.proofs.Running.{runs_last}
use Rattle.gates.proofs.circuit.Gates.choice.Goals as goal

pub returns : goal.returns
unfolding choice
returns c =
    runs_last _ _ _ c.in_ok-one.ensures (runs_last _ _ _ (rw c.inverse.ensures at c.in_ok-other.ensures) c.or.ensures)
