use Rattle.gates.specs.Build.{majority}
use Rattle.gates.proofs.Running.{runs_last}
use Rattle.gates.proofs.circuit.Gates.majority.Goals as goal

pub returns : goal.returns
unfolding majority
returns c =
    runs_last _ _ _ c.in_ok-both.ensures (runs_last _ _ _ c.in_ok-some.ensures (runs_last _ _ _ c.in_ok-one.ensures c.or-2.ensures))
