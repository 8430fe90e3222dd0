use Rattle.std.proofs.Common.{◌≡◌, ◌++◌, drop}
use Rattle.lowering_rules.specs.Shapes.{ends, last_end}
use Rattle.lowering_rules.proofs.shapes.in_blocks.Given as goal

abbrev pub invariant-loop-size : goal.invariant-loop-size
invariant-loop-size l = record {
  offsets : l.offsets.items ++ ends l.next (drop l.size-index l.sizes) ≡ ends l.first l.sizes;
  last : last_end l.next (drop l.size-index l.sizes) ≡ last_end l.first l.sizes;
}
