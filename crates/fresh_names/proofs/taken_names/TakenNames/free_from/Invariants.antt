use Rattle.std.proofs.Common.{◌≡◌, ◌-◌, length}
use Rattle.fresh_names.specs.Fresh.{free_from}
use Rattle.fresh_names.specs.Tried.{IsTried}
use Rattle.fresh_names.specs.TakenViews.{taken_names}
use Rattle.fresh_names.proofs.taken_names.TakenNames.free_from.Given as goal

abbrev pub invariant-loop-number : goal.invariant-loop-number
invariant-loop-number l = record {
  tried : IsTried (taken_names l.self) l.wanted l.number;
  same : free_from (taken_names l.self) l.wanted (length (taken_names l.self) - l.number) l.number ≡ free_from (taken_names l.self) l.wanted (length (taken_names l.self)) 0;
}
