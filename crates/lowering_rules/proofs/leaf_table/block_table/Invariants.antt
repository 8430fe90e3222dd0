use Rattle.hw_model.specs.Kinds.{Kind}
use Rattle.hw_model.specs.Design.{Op}
use Rattle.ir_store.specs.Bodies.{ops_of}
use Rattle.ir_store.specs.Numbered.{ops_by_position}
use Rattle.aggregate_laws.specs.LeafPorts.{split_ports}
use Rattle.aggregate_laws.specs.Aggregates.{aggregate_rules}
use Rattle.lowering_rules.proofs.BlockSteps.{IsBuilt}
use Rattle.lowering_rules.proofs.leaf_table.block_table.Given as goal

abbrev pub invariant-loop-position : goal.invariant-loop-position
invariant-loop-position l = (named : Op → Kind) → IsBuilt (aggregate_rules split_ports named) (ops_by_position (ops_of l.body)) l.position l.start l.table
