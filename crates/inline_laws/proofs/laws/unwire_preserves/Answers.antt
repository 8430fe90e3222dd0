use Rattle.inline_laws.proofs.Unwired.{unwire_preserves}
use Rattle.inline_laws.proofs.laws.unwire_preserves.Goals as goal

pub returns : goal.returns
returns c = unwire_preserves
