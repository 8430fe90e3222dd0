use Rattle.std.proofs.Common.{sym, subst}
use Rattle.gates.specs.Build.{done}
use Rattle.gates.specs.Circuits.{Runs}
use Rattle.gates.proofs.Running.{runs-done}
use Rattle.flat_module_gates.proofs.registers.enabled_word.Goals as goal

pub returns-in_ok-kept-in-None : goal.returns-in_ok-kept-in-None
returns-in_ok-kept-in-None c = rw c.in-None.is (subst (Runs (done c.args.next.now) c.args.gates.now c.args.gates.now) (sym c.in_ok-kept-in-None.ensures.items) runs-done)
