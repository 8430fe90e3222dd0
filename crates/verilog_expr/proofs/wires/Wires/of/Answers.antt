use Rattle.std.proofs.Common.{length, subst, ap, sym, ◌∙◌}
use Rattle.verilog_expr.specs.Scopes.{scope_ports, scope_ops}
use Rattle.verilog_expr.specs.Marks.{AreMarks}
use Rattle.verilog_expr.specs.PartTables.{AreParts, AreHeightsAt}
use Rattle.verilog_expr.proofs.Heights.{heights_hold}
use Rattle.verilog_expr.proofs.wires.Wires.of.Goals as goal

pub parts_of-requires : goal.parts_of-requires
parts_of-requires c = record {
  count = ap length c.as_slice.ensures.value ∙ c.in_ok-marks.ensures.count;
  marks = subst (AreMarks (scope_ports c.args.scope.now) (scope_ops c.args.scope.now)) (sym c.as_slice.ensures.value) c.in_ok-marks.ensures.marks;
}

pub heights_of-requires : goal.heights_of-requires
heights_of-requires c = record {
  parts = subst (AreParts (scope_ports c.args.scope.now) (scope_ops c.args.scope.now)) (sym c.as_slice-2.ensures.value) c.in_ok-parts.ensures.parts;
  part_count = ap length c.as_slice-2.ensures.value ∙ c.in_ok-parts.ensures.count;
  heights = heights_hold (scope_ports c.args.scope.now) (scope_ops c.args.scope.now) c.requires;
  acyclic = c.requires;
}

pub wires_of-requires : goal.wires_of-requires
wires_of-requires c = record {
  mark_count = ap length c.as_slice-3.ensures.value ∙ c.in_ok-marks.ensures.count;
  marks = subst (AreMarks (scope_ports c.args.scope.now) (scope_ops c.args.scope.now)) (sym c.as_slice-3.ensures.value) c.in_ok-marks.ensures.marks;
  part_count = ap length c.as_slice-4.ensures.value ∙ c.in_ok-parts.ensures.count;
  parts = subst (AreParts (scope_ports c.args.scope.now) (scope_ops c.args.scope.now)) (sym c.as_slice-4.ensures.value) c.in_ok-parts.ensures.parts;
  height_count = ap length c.as_slice-5.ensures.value ∙ c.in_ok-heights.ensures.count;
  heights = subst (AreHeightsAt (scope_ports c.args.scope.now) (scope_ops c.args.scope.now)) (sym c.as_slice-5.ensures.value) c.in_ok-heights.ensures.heights;
}
