use Rattle.ir_store.specs.Designs.{design_of, ports_in}
use Rattle.lowering_rules.specs.LoweringRules.{leaf_named}
use Rattle.aggregate_lower.proofs.BodiesJoined.{starts_many, body_settles}
use Rattle.aggregate_lower.proofs.lowering.made_of.Goals as goal

pub all_made-requires-clause-ids : goal.all_made-requires-clause-ids
all_made-requires-clause-ids c = (c.in_ok-table.ensures (leaf_named (design_of c.args.callees.now.design.now))).ids

pub all_made-requires-clause-starts : goal.all_made-requires-clause-starts
all_made-requires-clause-starts c =
    let d = design_of c.args.callees.now.design.now in
    starts_many d (ports_in c.args.ports.now) c.args.body.now c.in_ok-table.table (c.in_ok-table.ensures (leaf_named d))

pub returns : goal.returns
returns c =
    let d = design_of c.args.callees.now.design.now in
    body_settles d (ports_in c.args.ports.now) c.args.body.now c.in_ok-table.table (c.in_ok-table.ensures (leaf_named d)) c.requires.fit c.requires.there c.in_ok-made.made c.in_ok-made.ensures
