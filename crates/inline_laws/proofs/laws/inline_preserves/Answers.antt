use Rattle.inline_laws.proofs.Follows.{inline_preserves}
use Rattle.inline_laws.proofs.laws.inline_preserves.Goals as goal

pub returns : goal.returns
returns c = inline_preserves
