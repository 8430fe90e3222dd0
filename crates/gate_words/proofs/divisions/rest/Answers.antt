use Rattle.gates.proofs.Running.{runs-done, runs_then}
use Rattle.gate_words.specs.GateLists.{rest}
use Rattle.gate_words.proofs.divisions.rest.Goals as goal

pub returns : goal.returns
unfolding rest
returns c = runs_then _ c.in_ok-left.ensures runs-done
