use Rattle.aiger_design.proofs.TextDesigns.{runs_same}
use Rattle.aiger_design.proofs.laws.run_is_the_texts.Goals as goal

pub returns : goal.returns
returns c = runs_same
