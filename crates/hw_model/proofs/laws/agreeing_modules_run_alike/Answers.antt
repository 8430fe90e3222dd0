use Rattle.hw_model.proofs.Agreeing.{first_steps, agreeing_runs}
use Rattle.hw_model.proofs.laws.agreeing_modules_run_alike.Goals as goal

pub returns-clause-runs : goal.returns-clause-runs
returns-clause-runs c = λ d a e b marked marked_too agree resets resets_too. agreeing_runs d a e b agree marked marked_too resets resets_too

pub returns-clause-steps : goal.returns-clause-steps
returns-clause-steps c = first_steps
