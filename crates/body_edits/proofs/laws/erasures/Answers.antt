use Rattle.body_edits.proofs.Erasing.{numbered_erase}
use Rattle.body_edits.proofs.laws.erasures.Goals as goal

pub returns : goal.returns
returns c = numbered_erase
