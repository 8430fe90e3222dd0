use Rattle.body_edits.proofs.Replacing.{numbered_number}
use Rattle.body_edits.proofs.laws.replacements.Goals as goal

pub returns : goal.returns
returns c = numbered_number
