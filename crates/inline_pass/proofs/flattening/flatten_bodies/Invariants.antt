use Rattle.std.proofs.Common.{take}
use Rattle.ir_store.specs.Designs.{design_of}
use Rattle.inline_pass.proofs.FlatteningOrder.{AreFlat}
use Rattle.inline_pass.proofs.flattening.flatten_bodies.Given as goal

abbrev pub invariant-loop-number : goal.invariant-loop-number
invariant-loop-number l = AreFlat (design_of l.fn.design) (design_of l.design) (take l.number-index l.number-items)
