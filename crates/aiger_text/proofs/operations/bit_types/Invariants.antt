use Rattle.std.proofs.Common.{◌≡◌, ◌-◌, ◌≤◌, map}
use Rattle.hw_model.specs.TypeViews.{type_of}
use Rattle.aiger_text.specs.Seen.{bit_types}
use Rattle.aiger_text.proofs.operations.bit_types.Given as goal

abbrev pub invariant-loop-k : goal.invariant-loop-k
invariant-loop-k l = record {
  types : map type_of l.types.items ≡ bit_types l.k;
  low : l.k ≤ l.count;
}

abbrev pub decreases-loop-k : goal.decreases-loop-k
decreases-loop-k l = l.count - l.k
