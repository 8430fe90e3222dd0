use Rattle.body_index.proofs.ReadOps.{id_contained, op_is}
use Rattle.lowering_rules.proofs.leaf_table.op_at.Goals as goal

pub op-requires : goal.op-requires
op-requires c = id_contained c.args.body.now c.args.ids.now c.requires.all c.args.position c.requires.within

pub returns : goal.returns
returns c = op_is c.args.body.now c.args.ids.now c.requires.all c.args.position c.requires.within c.op.result c.op.ensures
