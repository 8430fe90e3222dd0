use Rattle.std.proofs.Common.{◌≡◌, [], length}
use Rattle.lowering_rules.specs.Reading.{new_refs}
use Rattle.aggregate_lower.specs.Targets.{Places}
use Rattle.aggregate_lower.specs.Settling.{SettledBefore}
use Rattle.aggregate_lower.proofs.places.settle_all.Given as goal

abbrev pub invariant-loop-number : goal.invariant-loop-number
invariant-loop-number l = record {
  so_far : (s : Places l.flags (new_refs l.fn.targets)) → SettledBefore l.flags (new_refs l.fn.targets) s l.waiting (new_refs l.targets) l.number;
  none : l.path.items ≡ [];
  many : length l.targets ≡ length l.fn.targets;
}
