use Rattle.aggregate_laws.proofs.Designs.{design_follows}
use Rattle.aggregate_laws.proofs.laws.rules_preserve.Goals as goal

pub returns : goal.returns
returns c = design_follows
