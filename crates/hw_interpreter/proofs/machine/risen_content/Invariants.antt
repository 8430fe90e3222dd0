use Rattle.std.proofs.Common.{◌≡◌, ◌++◌, drop, map}
use Rattle.hw_model.specs.Meaning.{risen_content}
use Rattle.hw_interpreter.specs.DesignViews.{module_of}
use Rattle.hw_interpreter.specs.Depth.{value_within}
use Rattle.hw_interpreter.specs.Registers.{slot_of}
use Rattle.hw_interpreter.proofs.machine.risen_content.Given as goal

abbrev pub invariant-loop-slot : goal.invariant-loop-slot
invariant-loop-slot l =
    l.word ++ risen_content (map slot_of (drop l.slot-index l.slots)) (value_within (map module_of l.at.modules.now) l.at.top.now l.before l.at.content.now l.depth)
    (value_within (map module_of l.at.modules.now) l.at.top.now l.at.inputs.now l.at.content.now l.depth) l.left
    ≡ risen_content (map slot_of l.slots) (value_within (map module_of l.at.modules.now) l.at.top.now l.before l.at.content.now l.depth)
    (value_within (map module_of l.at.modules.now) l.at.top.now l.at.inputs.now l.at.content.now l.depth) l.at.content.now
