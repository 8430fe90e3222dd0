use Rattle.and_gates.proofs.StepBits.{clocked_within, clocked_long}
use Rattle.and_gates.proofs.OneExport.{export_below}
use Rattle.and_gates.proofs.laws.exports_are_bounded.Goals as goal

pub returns-clause-below : goal.returns-clause-below
returns-clause-below c = export_below

pub returns-clause-within : goal.returns-clause-within
returns-clause-within c = clocked_within

pub returns-clause-long : goal.returns-clause-long
returns-clause-long c = clocked_long
