use Rattle.gates.specs.Build.{or}
use Rattle.gates.proofs.Running.{runs-done, runs_then}
use Rattle.gates.proofs.circuit.Gates.or.Goals as goal

pub returns : goal.returns
unfolding or
returns c =
    rw c.inverse-3.ensures (runs_then _ (rw (c.inverse.ensures, c.inverse-2.ensures) at c.in_ok-neither.ensures) runs-done)
