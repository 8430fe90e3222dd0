use Rattle.aggregate_laws.proofs.LeafPorts.{split_bare, split_different}
use Rattle.lowering_rules.proofs.BareKinds.{kind_bare}
use Rattle.lowering_rules.proofs.laws.ports_are_split.Goals as goal

pub returns-clause-leaves : goal.returns-clause-leaves
returns-clause-leaves c = split_bare

pub returns-clause-different : goal.returns-clause-different
returns-clause-different c = split_different

pub returns-clause-kinds : goal.returns-clause-kinds
returns-clause-kinds c d o = kind_bare d o.kind
