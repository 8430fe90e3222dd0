use Rattle.ir_store.specs.Designs.{design_of}
use Rattle.inline_pass.specs.Marks.{ArePublicBefore}
use Rattle.inline_pass.proofs.dead_modules.public_modules.Given as goal

abbrev pub invariant-loop-number : goal.invariant-loop-number
invariant-loop-number l = ArePublicBefore (design_of l.design) l.number l.numbers.items
