use Rattle.std.proofs.Common.{◌≡◌, ◌++◌, length}
use Rattle.cse_pass.specs.UnusedAggregates.{IsWithoutUnusedAggregates}
use Rattle.pass_manager.proofs.TrimmedBodies.{AreWorked}
use Rattle.pass_manager.proofs.for_export.trimmed_bodies.Given as goal

abbrev pub invariant-loop-body : goal.invariant-loop-body
invariant-loop-body l = record {
  worked : AreWorked IsWithoutUnusedAggregates l.yielded l.trimmed.items;
  all : l.fn.bodies.items ≡ l.yielded ++ l.body-iterator.rest.items;
  left : l.body-iterator.rest.len ≡ length l.body-iterator.rest.items;
}
