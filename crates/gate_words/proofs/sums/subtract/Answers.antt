use Rattle.gates.proofs.Running.{runs-done, runs_then}
use Rattle.gate_words.specs.GateLists.{subtracted}
use Rattle.gate_words.proofs.sums.subtract.Goals as goal

pub returns : goal.returns
unfolding subtracted
returns c = runs_then _ c.in_ok-word.ensures runs-done
