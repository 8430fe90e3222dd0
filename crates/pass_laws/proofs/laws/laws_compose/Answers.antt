use Rattle.pass_laws.proofs.Composed.{after_both}
use Rattle.pass_laws.proofs.laws.laws_compose.Goals as goal

pub returns : goal.returns
returns c = after_both
