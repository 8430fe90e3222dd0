use Rattle.edit_laws.proofs.Follows.{follows_then, follows_self}
use Rattle.edit_laws.proofs.laws.following_composes.Goals as goal

pub returns-clause-composes : goal.returns-clause-composes
returns-clause-composes c = follows_then

pub returns-clause-itself : goal.returns-clause-itself
returns-clause-itself c = follows_self
