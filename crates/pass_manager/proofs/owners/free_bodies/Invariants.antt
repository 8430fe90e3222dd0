use Rattle.std.proofs.Common.{◌≡◌, map}
use Rattle.ir_store.specs.Bodies.{ops_of}
use Rattle.inline_pass.specs.Received.{ops_in}
use Rattle.pass_manager.proofs.owners.free_bodies.Given as goal

abbrev pub invariant-loop-body : goal.invariant-loop-body
invariant-loop-body l = map ops_of l.bodies.items ≡ map ops_in l.yielded
