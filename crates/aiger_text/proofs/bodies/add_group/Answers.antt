use Rattle.aiger_reader.specs.Kept.{tree_of}
use Rattle.aiger_text.specs.Seen.{seen}
use Rattle.aiger_text.proofs.GroupSteps.{own_room}
use Rattle.aiger_text.proofs.bodies.add_group.Goals as goal

pub add-requires-clause-room : goal.add-requires-clause-room
add-requires-clause-room c =
    own_room (tree_of c.args.text.now) (seen c.args.body.now) (seen c.add_operands.new.body) c.args.literals.now c.in_ok-operands.ensures.ops c.requires.room
