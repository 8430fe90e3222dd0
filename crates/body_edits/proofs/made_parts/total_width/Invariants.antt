use Rattle.std.proofs.Common.{◌≡◌, ◌≤◌, ◌+◌, ◌*◌, map, drop}
use Rattle.hw_model.specs.TypeViews.{type_of}
use Rattle.body_edits.specs.Widths.{counted_width}
use Rattle.body_edits.proofs.made_parts.total_width.Given as goal

abbrev pub invariant-loop-ty : goal.invariant-loop-ty
invariant-loop-ty l = record {
  total : l.sum + counted_width (map type_of (drop l.ty-index l.types)) ≡ counted_width (map type_of l.types);
  most : l.sum ≤ l.ty-index * 0xffff_ffff_ffff_ffff;
}
