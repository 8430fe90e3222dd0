use Rattle.miter_blast.proofs.ComparedCopies.{copies_alike}
use Rattle.miter_blast.proofs.comparison_laws.copies_are_alike.Goals as goal

pub returns : goal.returns
returns c = copies_alike
