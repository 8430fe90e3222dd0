use Rattle.hw_model.proofs.Resets.{signal_follows, value_stays, run_reset}
use Rattle.hw_model.proofs.laws.resets_follow_inputs.Goals as goal

pub returns-clause-signals : goal.returns-clause-signals
returns-clause-signals c = signal_follows

pub returns-clause-values : goal.returns-clause-values
returns-clause-values c = value_stays

pub returns-clause-runs : goal.returns-clause-runs
returns-clause-runs c = run_reset
