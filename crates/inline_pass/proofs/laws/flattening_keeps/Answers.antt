use Rattle.inline_pass.proofs.FlatteningLaw.{flattening_is_after}
use Rattle.inline_pass.proofs.laws.flattening_keeps.Goals as goal

pub returns : goal.returns
returns c = flattening_is_after
