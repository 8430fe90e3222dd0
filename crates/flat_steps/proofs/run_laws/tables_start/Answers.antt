use Rattle.flat_steps.proofs.RunSteps.{start_fits, tables_start}
use Rattle.flat_steps.proofs.run_laws.tables_start.Goals as goal

pub returns : goal.returns
returns c = record {
  fits = start_fits;
  holds = tables_start;
}
