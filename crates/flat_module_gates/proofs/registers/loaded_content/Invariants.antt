use Rattle.std.proofs.Common.{take}
use Rattle.gates.specs.Circuits.{Runs}
use Rattle.ir_store.specs.Bodies.{ops_of}
use Rattle.ir_store.specs.Numbered.{ops_by_position}
use Rattle.flat_module_gates.specs.FlatGateLists.{word_at}
use Rattle.flat_module_gates.specs.FlatSteps.{loaded_of, content_gate_list}
use Rattle.flat_module_gates.proofs.registers.loaded_content.Given as goal

abbrev pub invariant-loop-position : goal.invariant-loop-position
invariant-loop-position l =
    Runs (content_gate_list (loaded_of (ops_by_position (ops_of l.body.ops.now.body.now)) (word_at l.body.words.now.ports.items l.body.words.now.results.items))
    (take l.position (ops_by_position (ops_of l.body.ops.now.body.now))) l.content) l.fn.gates l.gates l.made.items
