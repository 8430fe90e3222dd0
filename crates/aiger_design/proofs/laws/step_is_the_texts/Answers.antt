use Rattle.aiger_design.proofs.NetHeights.{imported_heights}
use Rattle.aiger_design.proofs.TextDesigns.{latches_held, steps_same}
use Rattle.aiger_design.proofs.laws.step_is_the_texts.Goals as goal

pub returns-clause-content : goal.returns-clause-content
returns-clause-content c = latches_held

pub returns-clause-heights : goal.returns-clause-heights
returns-clause-heights c = imported_heights

pub returns-clause-steps : goal.returns-clause-steps
returns-clause-steps c = steps_same
