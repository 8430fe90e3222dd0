-- A type is what its first token begins; fields are gathered until no comma stands after one.
use Rattle.std.proofs.Common.{refl, sym, map, arith, rules, Vec, Box, Global}
use Rattle.hw_model.specs.TypeViews.{type_of, field_of}
use Rattle.hw_model.specs.declared.types.Ty.{the_lemmas}
use Rattle.mlir_syntax.specs.TypeText.{struct_text, array_text}
use Rattle.hw_model.specs.declared.types.Field.{Field}
use Rattle.hw_model.specs.declared.types.Ty.{Ty}
use Rattle.mlir_lexer.specs.Tokens.{text_token}
use Rattle.mlir_syntax.proofs.Chains.{passed_on}
use Rattle.mlir_syntax.proofs.Lists.{fails, ends, ends-shorter, goes_on}
use Rattle.mlir_syntax.proofs.Types.{is_field, integer_at, clock_at, array_at, struct_at, deep_array_at, deep_struct_at, foreign_at, nothing_at}
use Rattle.mlir_syntax.proofs.reader.Reader.+types.Goals as goal

pub some_fields-returns-in-Err-clause-gives : goal.some_fields-returns-in-Err-clause-gives
some_fields-returns-in-Err-clause-gives t c =
    fails {C = Vec Field Global} (λ fields. map field_of fields.items) c.in-Err.fail c.field_text.new.self c.field_text.new.self (is_field c.args.room c.args.op) c.loop-field.invariant c.in-Err.ensures.gives

pub some_fields-returns-then-not-pass-clause-gives : goal.some_fields-returns-then-not-pass-clause-gives
some_fields-returns-then-not-pass-clause-gives t c =
    ends c.in-Ok.field c.push.new.self.items c.field_text.new.self c.pass.new.self c.pass.result (is_field c.args.room c.args.op) c.loop-field.invariant
    c.in-Ok.ensures.gives c.in_ok-push-in-Ok.ensures.items c.pass.ensures.is c.pass.ensures.after c.if-not-pass.true

pub some_fields-returns-then-not-pass-clause-shorter : goal.some_fields-returns-then-not-pass-clause-shorter
some_fields-returns-then-not-pass-clause-shorter t c =
    ends-shorter c.field_text.new.self c.pass.new.self c.pass.result c.loop-field.invariant c.pass.ensures.after c.if-not-pass.true c.in-Ok.ensures.shorter

pub some_fields-loop-field-preserved : goal.some_fields-loop-field-preserved
some_fields-loop-field-preserved t c =
    goes_on c.in-Ok.field c.push.new.self.items c.field_text.new.self c.pass.new.self c.pass.result (is_field c.args.room c.args.op) c.loop-field.invariant
    c.in-Ok.ensures.gives c.in_ok-push-in-Ok.ensures.items c.pass.ensures.is c.pass.ensures.after c.if-not-pass.false c.in-Ok.ensures.shorter
    (c.pass.ensures.shorter c.if-not-pass.false)

pub type_text-returns-in-Integer-clause-gives : goal.type_text-returns-in-Integer-clause-gives
type_text-returns-in-Integer-clause-gives t c = rw (integer_at c.args.room c.args.op c.args.self.now c.in-Integer.digits.now c.in-Integer.ensures) c.width_type.ensures.gives

pub type_text-returns-in-Clock-clause-gives : goal.type_text-returns-in-Clock-clause-gives
type_text-returns-in-Clock-clause-gives t c = rw (clock_at c.args.room c.args.op c.args.self.now c.in-Clock.ensures, c.advance.ensures) (search (rules, the_lemmas))

pub type_text-returns-in-Array-clause-gives : goal.type_text-returns-in-Array-clause-gives
type_text-returns-in-Array-clause-gives t c = rw (array_at c.args.room c.args.op c.args.self.now c.in-Array.ensures c.if-room-gt0.true) c.array_text.ensures.gives

pub type_text-returns-in-Struct-clause-gives : goal.type_text-returns-in-Struct-clause-gives
type_text-returns-in-Struct-clause-gives t c = rw (struct_at c.args.room c.args.op c.args.self.now c.in-Struct.ensures c.if-room-gt0-2.true) c.struct_text.ensures.gives

pub type_text-returns-in-Foreign-clause-gives : goal.type_text-returns-in-Foreign-clause-gives
type_text-returns-in-Foreign-clause-gives t c = rw (foreign_at c.args.room c.args.op c.args.self.now c.in-Foreign.ensures, c.refusal_for-in-Foreign.ensures) refl

pub type_text-returns-in-Nothing-clause-gives : goal.type_text-returns-in-Nothing-clause-gives
type_text-returns-in-Nothing-clause-gives t c = rw (nothing_at c.args.room c.args.op c.args.self.now c.in-Nothing.ensures, c.unexpected_token.ensures) refl

pub type_text-returns-in-Array-2-clause-gives : goal.type_text-returns-in-Array-2-clause-gives
type_text-returns-in-Array-2-clause-gives t c =
    rw c.refusal_for.ensures (deep_array_at c.args.room c.args.op c.args.self.now c.in-Array-2.ensures (omega (arith, c.if-room-gt0.false)))

pub type_text-returns-in-Struct-2-clause-gives : goal.type_text-returns-in-Struct-2-clause-gives
type_text-returns-in-Struct-2-clause-gives t c =
    rw c.refusal_for-in-Struct-2.ensures (deep_struct_at c.args.room c.args.op c.args.self.now c.in-Struct-2.ensures (omega (arith, c.if-room-gt0-2.false)))

pub struct_text-returns-in_err-fields-clause-gives : goal.struct_text-returns-in_err-fields-clause-gives
unfolding struct_text
struct_text-returns-in_err-fields-clause-gives t c =
    rw (sym c.advance.ensures, c.in_ok-want.ensures.gives) (passed_on {A = Vec Field Global}
    (λ fields. map field_of fields.items) type_of c.from_residual-in_err-fields.result c.in_err-fields.field-0.0 c.fields_text.new.self c.fields_text.new.self _ _ c.from_residual-in_err-fields.ensures.1 c.in_err-fields.ensures.gives)

pub struct_text-returns-clause-gives : goal.struct_text-returns-clause-gives
unfolding struct_text
struct_text-returns-clause-gives t c = rw (sym c.advance.ensures, c.in_ok-want.ensures.gives, c.in_ok-fields.ensures.gives) (search (rules, the_lemmas))

pub array_text-returns-in_err-element-clause-gives : goal.array_text-returns-in_err-element-clause-gives
unfolding array_text
array_text-returns-in_err-element-clause-gives t c =
    rw (sym c.advance.ensures, c.in_ok-want.ensures.gives, c.in_ok-length.ensures.gives)
    (passed_on {A = Box Ty Global} (λ element. type_of element.value) type_of c.from_residual-in_err-element.result c.in_err-element.field-0.0 c.boxed_element.new.self c.boxed_element.new.self _ _ c.from_residual-in_err-element.ensures.1 c.in_err-element.ensures.gives)

pub array_text-returns-in_err-want-2-clause-gives : goal.array_text-returns-in_err-want-2-clause-gives
unfolding array_text
array_text-returns-in_err-want-2-clause-gives t c =
    rw (sym c.advance.ensures, c.in_ok-want.ensures.gives, c.in_ok-length.ensures.gives, c.in_ok-element.ensures.gives)
    (passed_on text_token type_of c.from_residual-in_err-want-2.result c.in_err-want-2.field-0.0 c.want-2.new.self c.want-2.new.self _ _ c.from_residual-in_err-want-2.ensures.1 c.in_err-want-2.ensures.gives)

pub array_text-returns-clause-gives : goal.array_text-returns-clause-gives
unfolding array_text
array_text-returns-clause-gives t c =
    rw (sym c.advance.ensures, c.in_ok-want.ensures.gives, c.in_ok-length.ensures.gives, c.in_ok-element.ensures.gives, c.in_ok-want-2.ensures.gives)
    (search (rules, the_lemmas))
