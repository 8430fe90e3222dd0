use Rattle.miter_blast.proofs.CopyLaw.{copy_keeps}
use Rattle.miter_blast.proofs.copy_laws.flat_copies_keep.Goals as goal

pub returns : goal.returns
returns c = copy_keeps
