use Rattle.aggregate_acceptance.proofs.Regular.{all_regular}
use Rattle.aggregate_acceptance.proofs.laws.operations_are_regular.Goals as goal

pub returns : goal.returns
returns c = all_regular
