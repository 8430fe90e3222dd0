use Rattle.lowering_rules.specs.Reading.{new_refs}
use Rattle.aggregate_lower.proofs.places.settled_ops.Goals as goal

pub returns : goal.returns
returns c = λ s. record { targets = new_refs c.settle.new.targets; settled = c.in_ok-settle.ensures.settled s; are = c.in_ok-moved.ensures }
