use Rattle.pass_manager.proofs.Results.{exported_after, exported_none}
use Rattle.pass_manager.proofs.laws.exports_follow.Goals as goal

pub returns-clause-after : goal.returns-clause-after
returns-clause-after c = exported_after

pub returns-clause-none_left : goal.returns-clause-none_left
returns-clause-none_left c = exported_none
