use Rattle.std.proofs.Common.{◌≡◌, take}
use Rattle.ir_store.specs.Bodies.{ops_of}
use Rattle.ir_store.specs.Numbered.{ops_by_position}
use Rattle.flat_steps.specs.Steps.{risen_words}
use Rattle.flat_steps.proofs.registers.risen_words.Given as goal

abbrev pub invariant-loop-position : goal.invariant-loop-position
invariant-loop-position l = l.words.items ≡ risen_words (ops_by_position (ops_of l.body.ops.now.body.now)) l.before l.body.ports.now l.body.results.now (take l.position-index l.positions)
