use Rattle.aiger_export.proofs.ExportedTexts.{text_says, text_runs}
use Rattle.aiger_export.proofs.laws.exported_texts_run.Goals as goal

pub returns-clause-says : goal.returns-clause-says
returns-clause-says c = text_says

pub returns-clause-runs : goal.returns-clause-runs
returns-clause-runs c = text_runs
