use Rattle.std.proofs.Common.{◌≡◌, map, length}
use Rattle.std.specs.Cmp.Lexicographic.{pointwise}
use Rattle.hw_model.specs.SameType.{same_type}
use Rattle.hw_model.specs.TypeViews.{type_of}
use Rattle.cse_pass.proofs.equal_ops.are_same_types.Given as goal

abbrev pub invariant-loop-x : goal.invariant-loop-x
invariant-loop-x l = record {
  same : pointwise same_type (map type_of l.x-iterator.a.rest.now) (map type_of l.x-iterator.b.rest.now) ≡ pointwise same_type (map type_of l.xs) (map type_of l.ys);
  lengths : length l.x-iterator.a.rest.now ≡ length l.x-iterator.b.rest.now;
}
