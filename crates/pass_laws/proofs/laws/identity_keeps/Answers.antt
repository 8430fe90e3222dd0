use Rattle.pass_laws.proofs.Unchanged.{identity_keeps}
use Rattle.pass_laws.proofs.laws.identity_keeps.Goals as goal

pub returns : goal.returns
returns c = identity_keeps
