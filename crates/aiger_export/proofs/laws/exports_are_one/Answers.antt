use Rattle.aiger_export.proofs.OneExport.{one_refusal, no_text}
use Rattle.aiger_export.proofs.laws.exports_are_one.Goals as goal

pub returns-clause-refusals : goal.returns-clause-refusals
returns-clause-refusals c = one_refusal

pub returns-clause-apart : goal.returns-clause-apart
returns-clause-apart c = no_text
