use Rattle.std.proofs.Common.{◌≡◌, map}
use Rattle.std.specs.Arc.{arc_value}
use Rattle.pass_manager.proofs.owners.owned_bodies.Given as goal

abbrev pub invariant-loop-body : goal.invariant-loop-body
invariant-loop-body l = map arc_value l.owned.items ≡ l.yielded
