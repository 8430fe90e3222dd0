use Rattle.std.proofs.Common.{◌≡◌, length, map}
use Rattle.ir_store.specs.Bodies.{ops_of}
use Rattle.ir_store.specs.Designs.{modules_of}
use Rattle.pass_manager.proofs.AllBodies.{IsPutting}
use Rattle.pass_manager.proofs.bodies.put_bodies.Given as goal

abbrev pub invariant-loop-body : goal.invariant-loop-body
invariant-loop-body l = record {
  putting : IsPutting (modules_of l.fn.design) (modules_of l.design) (map ops_of l.fn.bodies.items) (map ops_of l.body-iterator.rest.items) l.number;
  left : l.body-iterator.rest.len ≡ length l.body-iterator.rest.items;
}
