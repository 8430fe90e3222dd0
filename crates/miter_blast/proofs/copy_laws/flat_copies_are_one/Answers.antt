use Rattle.miter_blast.proofs.CopyLaw.{copies_once}
use Rattle.miter_blast.proofs.copy_laws.flat_copies_are_one.Goals as goal

pub returns : goal.returns
returns c = copies_once
