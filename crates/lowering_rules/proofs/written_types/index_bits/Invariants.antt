use Rattle.std.proofs.Common.{◌≡◌, ◌^◌, ◌-◌, ◌+◌}
use Rattle.aggregate_laws.specs.Aggregates.{bits_from, index_bits}
use Rattle.lowering_rules.proofs.written_types.index_bits.Given as goal

abbrev pub invariant-loop-reach : goal.invariant-loop-reach
invariant-loop-reach l = record {
  reach : l.reach ≡ 2 ^ l.bits;
  left : bits_from (l.length + 1 - l.bits) l.bits l.length ≡ index_bits l.length;
}

abbrev pub decreases-loop-reach : goal.decreases-loop-reach
decreases-loop-reach l = l.length - l.reach
