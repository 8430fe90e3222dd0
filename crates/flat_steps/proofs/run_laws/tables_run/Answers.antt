use Rattle.flat_steps.proofs.RunSteps.{tables_run}
use Rattle.flat_steps.proofs.run_laws.tables_run.Goals as goal

pub returns : goal.returns
returns c = tables_run
