use Rattle.inline_pass.proofs.DeadModulesGone.{without_dead_once, private_called, without_dead_fit}
use Rattle.inline_pass.proofs.laws.dead_modules_go_once.Goals as goal

pub returns-clause-once : goal.returns-clause-once
returns-clause-once c = without_dead_once

pub returns-clause-none_left : goal.returns-clause-none_left
returns-clause-none_left c = private_called

pub returns-clause-fit : goal.returns-clause-fit
returns-clause-fit c = without_dead_fit
