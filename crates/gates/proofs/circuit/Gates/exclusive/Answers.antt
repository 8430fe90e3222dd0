use Rattle.gates.specs.Build.{exclusive}
use Rattle.gates.proofs.Running.{runs_last}
use Rattle.gates.proofs.circuit.Gates.exclusive.Goals as goal

pub returns : goal.returns
unfolding exclusive
returns c =
    runs_last _ _ _ c.in_ok-both.ensures
    (runs_last _ _ _ (rw (c.inverse.ensures, c.inverse-2.ensures) at c.in_ok-neither.ensures)
    (rw (c.inverse-3.ensures, c.inverse-4.ensures) at c.and-3.ensures))
