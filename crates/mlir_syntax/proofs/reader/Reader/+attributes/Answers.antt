-- An attribute is what its first token begins; those of a list are gathered until no comma stands after one.
use Rattle.std.proofs.Common.{map, arith, refl, Vec, Global}
use Rattle.ir_store.specs.DictionaryViews.{attribute_of}
use Rattle.ir_store.specs.declared.dictionary.Attribute.{Attribute}
use Rattle.mlir_lexer.specs.Contents.{content_of}
use Rattle.mlir_lexer.specs.declared.token.TokenKind.TheVariants as kind
use Rattle.mlir_syntax.proofs.Lists.{fails, ends, goes_on}
use Rattle.mlir_syntax.proofs.Attributes.{is_attribute, text_at, symbol_at, truth_at, number_at, list_at, deep_list_at, alias_at, nothing_at}
use Rattle.mlir_syntax.proofs.reader.Reader.+attributes.Goals as goal

pub attribute_text-returns-in-Text-clause-gives : goal.attribute_text-returns-in-Text-clause-gives
attribute_text-returns-in-Text-clause-gives t c =
    rw (text_at c.args.room c.args.op c.args.self.now (content_of kind.StringLiteral c.in-Text.token.text.now) c.in-Text.ensures) c.text_value.ensures.gives

pub attribute_text-returns-in-Symbol-clause-gives : goal.attribute_text-returns-in-Symbol-clause-gives
attribute_text-returns-in-Symbol-clause-gives t c =
    rw (symbol_at c.args.room c.args.op c.args.self.now (content_of c.in-Symbol.token.kind c.in-Symbol.token.text.now) c.in-Symbol.ensures) c.symbol_value.ensures.gives

pub attribute_text-returns-in-Truth-clause-gives : goal.attribute_text-returns-in-Truth-clause-gives
attribute_text-returns-in-Truth-clause-gives t c =
    rw (truth_at c.args.room c.args.op c.args.self.now c.in-Truth.truth c.in-Truth.ensures, c.truth_value.ensures, c.advance.ensures) refl

pub attribute_text-returns-in-Number-clause-gives : goal.attribute_text-returns-in-Number-clause-gives
attribute_text-returns-in-Number-clause-gives t c = rw (number_at c.args.room c.args.op c.args.self.now c.in-Number.ensures) c.typed_integer.ensures.gives

pub attribute_text-returns-in-List-clause-gives : goal.attribute_text-returns-in-List-clause-gives
attribute_text-returns-in-List-clause-gives t c = rw (list_at c.args.room c.args.op c.args.self.now c.in-List.ensures c.if-room-gt0.true) c.list_text.ensures.gives

pub attribute_text-returns-in-List-2-clause-gives : goal.attribute_text-returns-in-List-2-clause-gives
attribute_text-returns-in-List-2-clause-gives t c =
    rw c.refusal_for.ensures (deep_list_at c.args.room c.args.op c.args.self.now c.in-List-2.ensures (omega (arith, c.if-room-gt0.false)))

pub attribute_text-returns-in-Alias-clause-gives : goal.attribute_text-returns-in-Alias-clause-gives
attribute_text-returns-in-Alias-clause-gives t c = rw (alias_at c.args.room c.args.op c.args.self.now c.in-Alias.ensures, c.refusal_for-in-Alias.ensures) refl

pub attribute_text-returns-in-Nothing-clause-gives : goal.attribute_text-returns-in-Nothing-clause-gives
attribute_text-returns-in-Nothing-clause-gives t c = rw (nothing_at c.args.room c.args.op c.args.self.now c.in-Nothing.ensures, c.unexpected_token.ensures) refl

pub some_attributes-returns-in-Err-clause-gives : goal.some_attributes-returns-in-Err-clause-gives
some_attributes-returns-in-Err-clause-gives t c =
    fails {C = Vec Attribute Global} (λ attributes. map attribute_of attributes.items) c.in-Err.fail c.attribute_text.new.self c.attribute_text.new.self
    (is_attribute c.args.room c.args.op) c.loop-attribute.invariant c.in-Err.ensures.gives

pub some_attributes-returns-then-not-pass-clause-gives : goal.some_attributes-returns-then-not-pass-clause-gives
some_attributes-returns-then-not-pass-clause-gives t c =
    ends c.in-Ok.attribute c.push.new.self.items c.attribute_text.new.self c.pass.new.self c.pass.result (is_attribute c.args.room c.args.op) c.loop-attribute.invariant
    c.in-Ok.ensures.gives c.in_ok-push-in-Ok.ensures.items c.pass.ensures.is c.pass.ensures.after c.if-not-pass.true

pub some_attributes-loop-attribute-preserved : goal.some_attributes-loop-attribute-preserved
some_attributes-loop-attribute-preserved t c =
    goes_on c.in-Ok.attribute c.push.new.self.items c.attribute_text.new.self c.pass.new.self c.pass.result (is_attribute c.args.room c.args.op) c.loop-attribute.invariant
    c.in-Ok.ensures.gives c.in_ok-push-in-Ok.ensures.items c.pass.ensures.is c.pass.ensures.after c.if-not-pass.false c.in-Ok.ensures.shorter
    (c.pass.ensures.shorter c.if-not-pass.false)
