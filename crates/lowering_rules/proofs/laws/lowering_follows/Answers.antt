use Rattle.aggregate_laws.proofs.Aggregates.{aggregates_follow}
use Rattle.aggregate_laws.specs.LeafPorts.{split_ports}
use Rattle.lowering_rules.specs.LoweringRules.{leaf_named}
use Rattle.aggregate_laws.proofs.LeafPorts.{split_bare}
use Rattle.lowering_rules.proofs.laws.lowering_follows.Goals as goal

pub returns : goal.returns
returns c d regular valid = aggregates_follow split_ports (leaf_named d) d split_bare regular valid
