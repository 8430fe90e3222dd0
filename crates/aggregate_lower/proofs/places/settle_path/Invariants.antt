use Rattle.std.proofs.Common.{◌≡◌, List, Bool, length, None}
use Rattle.hw_model.specs.Design.{Ref}
use Rattle.lowering_rules.specs.Reading.{new_ref, new_refs}
use Rattle.aggregate_lower.specs.Targets.{Places}
use Rattle.aggregate_lower.specs.Settling.{waiting_wire, Settling}
use Rattle.aggregate_lower.proofs.places.settle_path.Given as goal

abbrev pub invariant-loop-at : goal.invariant-loop-at
invariant-loop-at l = record {
  settled : (ts : List Ref) (s : Places l.flags ts) (waiting : List Bool) → Settling l.flags ts s waiting (new_refs l.fn.targets) l.fn.path.items (new_ref l.fn.last)
      → waiting_wire waiting (new_ref l.fn.last) ≡ None → Settling l.flags ts s waiting (new_refs l.targets) l.path.items (new_ref l.fn.last);
  many : length l.targets ≡ length l.fn.targets;
}

abbrev pub decreases-loop-at : goal.decreases-loop-at
decreases-loop-at l = length l.path.items
