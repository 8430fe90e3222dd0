use Rattle.edit_laws.proofs.Follows.{valid_after, follows_each}
use Rattle.edit_laws.proofs.laws.edits_preserve.Goals as goal

pub returns-clause-valid : goal.returns-clause-valid
returns-clause-valid c = valid_after

pub returns-clause-follows : goal.returns-clause-follows
returns-clause-follows c = follows_each
