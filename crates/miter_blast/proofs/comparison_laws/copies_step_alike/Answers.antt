use Rattle.miter_blast.proofs.CopySteps.{copy_steps}
use Rattle.miter_blast.proofs.comparison_laws.copies_step_alike.Goals as goal

pub returns : goal.returns
returns c = copy_steps
