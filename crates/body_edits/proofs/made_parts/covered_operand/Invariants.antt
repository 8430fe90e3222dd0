use Rattle.std.proofs.Common.{◌≡◌, map}
use Rattle.hw_model.specs.Design.{Ref}
use Rattle.hw_model.specs.TypeViews.{type_of}
use Rattle.ir_store.specs.declared.operation.Value.{Value}
use Rattle.fold_laws.specs.Parts.{covered_operand}
use Rattle.body_edits.specs.Widths.{counted_width}
use Rattle.body_edits.proofs.made_parts.covered_operand.Given as goal

abbrev pub invariant-loop-ty : goal.invariant-loop-ty
invariant-loop-ty l = record {
  same : (f : Value → Ref) → covered_operand l.low l.width (map type_of l.ty-iterator.a.rest.now) (map f l.ty-iterator.b.rest.now) ≡ covered_operand l.low l.width (map type_of l.types) (map f l.operands);
  left : l.left ≡ counted_width (map type_of l.ty-iterator.a.rest.now);
}
