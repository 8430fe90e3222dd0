use Rattle.ir_store.specs.Bodies.{ops_of}
use Rattle.ir_store.specs.Numbered.{ops_by_position}
use Rattle.ir_store.specs.Designs.{design_of, ports_in}
use Rattle.lowering_rules.specs.LoweringRules.{lowering_rules}
use Rattle.aggregate_lower.specs.MadeBodies.{joined_body}
use Rattle.aggregate_lower.proofs.BodiesJoined.{many_by, joined_by, body_joined}
use Rattle.aggregate_lower.proofs.lowering.lowered_body.Goals as goal

pub settled_ops-requires : goal.settled_ops-requires
settled_ops-requires c =
    let os = joined_body (lowering_rules (design_of c.args.callees.now.design.now)) (ports_in c.args.ports.now) (ops_by_position (ops_of c.args.body.now)) in
    let made = c.in_ok-made.made in
    many_by os made.flags.items c.as_slice.result.now made.targets.items c.as_mut_slice.result.now made.kept.items c.in_ok-made.ensures c.as_slice.ensures.value c.as_mut_slice.ensures.value

pub returns : goal.returns
returns c =
    let os = joined_body (lowering_rules (design_of c.args.callees.now.design.now)) (ports_in c.args.ports.now) (ops_by_position (ops_of c.args.body.now)) in
    let made = c.in_ok-made.made in
    let moved = c.in_ok-moved.moved.items in
    body_joined os moved
    (joined_by os made.flags.items c.as_slice.result.now made.targets.items c.as_mut_slice.result.now made.kept.items c.in_ok-made.ensures c.as_slice.ensures.value c.as_mut_slice.ensures.value moved c.in_ok-moved.ensures)
    c.in_ok-lowered.lowered c.in_ok-lowered.ensures
