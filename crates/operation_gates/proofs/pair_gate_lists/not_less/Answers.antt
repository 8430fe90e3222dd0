use Rattle.std.proofs.Common.{sym, subst}
use Rattle.gates.specs.Circuits.{Runs}
use Rattle.gates.proofs.Running.{runs-done, runs_then}
use Rattle.gate_words.specs.GateLists.{less}
use Rattle.operation_gates.specs.OperationGateLists.{negation}
use Rattle.operation_gates.proofs.pair_gate_lists.not_less.Goals as goal

pub returns : goal.returns
returns c =
    subst (λ s. Runs (negation (less c.args.x.now c.args.y.now)) c.args.gates.now c.less.new.gates s) (sym c.inverse.ensures)
    (runs_then _ c.in_ok-below.ensures runs-done)
