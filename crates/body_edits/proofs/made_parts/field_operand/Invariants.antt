use Rattle.std.proofs.Common.{◌≡◌, map}
use Rattle.hw_model.specs.Design.{Ref}
use Rattle.hw_model.specs.TypeViews.{field_of, fields_of}
use Rattle.ir_store.specs.declared.operation.Value.{Value}
use Rattle.fold_laws.specs.Parts.{field_operand}
use Rattle.body_edits.proofs.made_parts.field_operand.Given as goal

abbrev pub invariant-loop-field : goal.invariant-loop-field
invariant-loop-field l =
    (f : Value → Ref) → field_operand (fields_of (map field_of l.field-iterator.a.rest.now)) l.name (map f l.field-iterator.b.rest.now) ≡ field_operand (fields_of (map field_of l.fields)) l.name (map f l.operands)
