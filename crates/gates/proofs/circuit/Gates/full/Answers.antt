use Rattle.gates.specs.Build.{full}
use Rattle.gates.proofs.Running.{runs-done, runs_then}
use Rattle.gates.proofs.circuit.Gates.full.Goals as goal

pub returns : goal.returns
unfolding full
returns c =
    runs_then _ c.in_ok-unlike.ensures (runs_then _ c.in_ok-sum.ensures (runs_then _ c.in_ok-both.ensures
    (runs_then _ c.in_ok-one.ensures (runs_then _ c.in_ok-carry.ensures runs-done))))
