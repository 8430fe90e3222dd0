use Rattle.std.proofs.Common.{◌≡◌, ◌+◌, ◌*◌, ◌≤◌, ◌^◌, ◌++◌, ℕ, List, length, ap, ◌∙◌, arith}
use Rattle.aiger_design.specs.Positions.{inverter_count, output_user}
use Rattle.aiger_design.specs.Built.{group}
use Rattle.aiger_reader.specs.Kept.{tree_of}
use Rattle.aiger_reader.specs.Told.{line_count}
use Rattle.aiger_text.specs.Seen.{seen}
use Rattle.aiger_text.proofs.GroupSteps.{rooms, room_for_gates, whole_body}
use Rattle.aiger_text.proofs.bodies.body_of_text.Goals as goal

pub add_gates-requires-clause-room : goal.add_gates-requires-clause-room
add_gates-requires-clause-room c =
    let few : line_count (tree_of c.args.text.now) ≤ 2 ^ 26 = c.requires.few in
    let low : length (seen c.add_latches.new.body)
    ≤ 2 + 2 * length c.args.text.now.latches.items + 3 * length c.args.text.now.gates.items + length c.args.text.now.outputs.items =
    room_for_gates (tree_of c.args.text.now) (seen c.add_constants.new.body) (seen c.add_latches.new.body) c.in_ok-add_constants.ensures.ops c.in_ok-add_latches.ensures.ops in
    omega (arith, few, low)

pub add_group-requires-clause-room : goal.add_group-requires-clause-room
add_group-requires-clause-room c =
    let few : line_count (tree_of c.args.text.now) ≤ 2 ^ 26 = c.requires.few in
    let low : length (seen c.add_gates.new.body) + inverter_count c.args.text.now.outputs.items
    ≤ 2 + 2 * length c.args.text.now.latches.items + 3 * length c.args.text.now.gates.items + length c.args.text.now.outputs.items =
    rooms (tree_of c.args.text.now) (seen c.add_constants.new.body) (seen c.add_latches.new.body) (seen c.add_gates.new.body) c.in_ok-add_constants.ensures.ops
    c.in_ok-add_latches.ensures.ops c.in_ok-add_gates.ensures.ops in
    let same : inverter_count c.deref.result.now ≡ inverter_count c.args.text.now.outputs.items = ap inverter_count c.deref.ensures.value in
    omega (arith, few, low, same)

pub returns-clause-ops : goal.returns-clause-ops
returns-clause-ops c =
    whole_body (tree_of c.args.text.now) (seen c.add_constants.new.body) (seen c.add_latches.new.body) (seen c.add_gates.new.body) (seen c.add_group.new.body)
    c.in_ok-add_constants.ensures.ops c.in_ok-add_latches.ensures.ops c.in_ok-add_gates.ensures.ops
    (c.in_ok-add_group.ensures.ops
    ∙ ap (λ (ls : List ℕ). seen c.add_gates.new.body ++ group (tree_of c.args.text.now) (length (seen c.add_gates.new.body)) (output_user ls)) c.deref.ensures.value)
