use Rattle.aiger_laws.proofs.OneStep.{settles, steps_once, runs_once}
use Rattle.aiger_laws.proofs.laws.trees_run_once.Goals as goal

pub returns-clause-settled : goal.returns-clause-settled
returns-clause-settled c = settles

pub returns-clause-step : goal.returns-clause-step
returns-clause-step c = steps_once

pub returns-clause-run : goal.returns-clause-run
returns-clause-run c = runs_once
