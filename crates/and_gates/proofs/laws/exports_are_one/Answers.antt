use Rattle.and_gates.proofs.OneExport.{faults_are_one, export_unrefused}
use Rattle.and_gates.proofs.laws.exports_are_one.Goals as goal

pub returns-clause-faults : goal.returns-clause-faults
returns-clause-faults c = faults_are_one

pub returns-clause-unrefused : goal.returns-clause-unrefused
returns-clause-unrefused c = export_unrefused
