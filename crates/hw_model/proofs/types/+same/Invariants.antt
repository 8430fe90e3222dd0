use Rattle.std.proofs.Common.{◌≡◌, map, length}
use Rattle.hw_model.specs.TypeViews.{field_of, fields_of}
use Rattle.hw_model.specs.SameType.{same_fields}
use Rattle.hw_model.proofs.types.+same.Given as goal

abbrev pub invariant-same_lists-loop-f : goal.invariant-same_lists-loop-f
invariant-same_lists-loop-f l = record {
  same : same_fields (fields_of (map field_of l.f-iterator.a.rest.now)) (fields_of (map field_of l.f-iterator.b.rest.now)) ≡ same_fields (fields_of (map field_of l.fs)) (fields_of (map field_of l.gs));
  lengths : length l.f-iterator.a.rest.now ≡ length l.f-iterator.b.rest.now;
}
