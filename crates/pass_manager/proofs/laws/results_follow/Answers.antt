use Rattle.pass_manager.proofs.Results.{result_is_after}
use Rattle.pass_manager.proofs.laws.results_follow.Goals as goal

pub returns : goal.returns
returns c = result_is_after
