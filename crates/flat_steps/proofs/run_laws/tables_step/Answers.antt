use Rattle.flat_steps.proofs.RunSteps.{step_fits, step_outputs_long, tables_step}
use Rattle.flat_steps.proofs.run_laws.tables_step.Goals as goal

pub returns : goal.returns
returns c = record {
  fits = step_fits;
  widths = step_outputs_long;
  step = tables_step;
}
