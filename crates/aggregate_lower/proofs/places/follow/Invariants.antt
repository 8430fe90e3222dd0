use Rattle.std.proofs.Common.{List, Bool}
use Rattle.hw_model.specs.Design.{Ref}
use Rattle.lowering_rules.specs.Reading.{new_ref, new_refs}
use Rattle.aggregate_lower.specs.Targets.{Places}
use Rattle.aggregate_lower.specs.Settling.{Settling, GoesOn, wait_count}
use Rattle.aggregate_lower.proofs.places.follow.Given as goal

abbrev pub invariant-loop-at : goal.invariant-loop-at
invariant-loop-at l =
    (flags : List Bool) (ts : List Ref) (s : Places flags ts) → Settling flags ts s l.fn.waiting (new_refs l.targets) l.fn.path.items (new_ref l.fn.start)
    → GoesOn flags ts s l.fn.waiting l.waiting (new_refs l.targets) l.path.items (new_ref l.fn.start) (new_ref l.value)

abbrev pub decreases-loop-at : goal.decreases-loop-at
decreases-loop-at l = wait_count l.waiting
