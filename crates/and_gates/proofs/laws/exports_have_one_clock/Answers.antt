use Rattle.and_gates.proofs.OneExport.{export_one_clock, export_no_async}
use Rattle.and_gates.proofs.laws.exports_have_one_clock.Goals as goal

pub returns-clause-clocks : goal.returns-clause-clocks
returns-clause-clocks c = export_one_clock

pub returns-clause-resets : goal.returns-clause-resets
returns-clause-resets c = export_no_async
