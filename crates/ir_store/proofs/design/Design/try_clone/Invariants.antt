use Rattle.std.proofs.Common.{◌≡◌, take, map}
use Rattle.ir_store.specs.Designs.{module_of, modules_of}
use Rattle.ir_store.proofs.design.Design.try_clone.Given as goal

abbrev pub invariant-loop-one : goal.invariant-loop-one
invariant-loop-one l = modules_of l.copy ≡ map module_of (take l.one-index l.one-items)
