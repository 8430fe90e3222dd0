use Rattle.cse_pass.proofs.Once.{once}
use Rattle.cse_pass.proofs.laws.cse_once.Goals as goal

pub returns : goal.returns
returns c = once
