use Rattle.std.proofs.Common.{◌≡◌, length}
use Rattle.std.specs.Cmp.Lexicographic.{pointwise}
use Rattle.ir_store.specs.BodyOps.{same_value}
use Rattle.cse_pass.proofs.equal_ops.are_same_values.Given as goal

abbrev pub invariant-loop-x : goal.invariant-loop-x
invariant-loop-x l = record {
  same : pointwise same_value l.x-iterator.a.rest.now l.x-iterator.b.rest.now ≡ pointwise same_value l.xs l.ys;
  lengths : length l.x-iterator.a.rest.now ≡ length l.x-iterator.b.rest.now;
}
