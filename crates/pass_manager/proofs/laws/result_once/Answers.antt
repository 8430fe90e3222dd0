use Rattle.pass_manager.proofs.Results.{result_once}
use Rattle.pass_manager.proofs.laws.result_once.Goals as goal

pub returns : goal.returns
returns c = result_once
