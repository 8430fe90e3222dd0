use Rattle.std.proofs.Common.{map}
use Rattle.ir_store.specs.Bodies.{ops_of}
use Rattle.ir_store.specs.Designs.{modules_of}
use Rattle.pass_manager.proofs.AllBodies.{IsTaking}
use Rattle.pass_manager.proofs.bodies.take_bodies.Given as goal

abbrev pub invariant-loop-number : goal.invariant-loop-number
invariant-loop-number l = IsTaking (modules_of l.fn.design) (modules_of l.design) (map ops_of l.bodies.items) l.number
