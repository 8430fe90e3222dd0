use Rattle.gates.proofs.Running.{runs-done, runs_then}
use Rattle.gate_words.specs.GateLists.{added}
use Rattle.gate_words.proofs.sums.add.Goals as goal

pub returns : goal.returns
unfolding added
returns c = runs_then _ c.in_ok-word.ensures runs-done
