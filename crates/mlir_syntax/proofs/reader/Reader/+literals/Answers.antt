-- A constant is what its first token begins; those of a list are gathered until no comma stands after one.
use Rattle.std.proofs.Common.{map, arith, refl, Vec, Global}
use Rattle.hw_model.specs.KindViews.{literal_of, literals_in}
use Rattle.hw_model.specs.declared.kinds.Literal.{Literal}
use Rattle.mlir_syntax.specs.LiteralText.{parts_text}
use Rattle.mlir_syntax.proofs.Chains.{on_err}
use Rattle.mlir_syntax.proofs.Lists.{fails, ends, goes_on}
use Rattle.mlir_syntax.proofs.Literals.{is_literal, truth_at, number_at, list_at, deep_list_at, nothing_at}
use Rattle.mlir_syntax.proofs.reader.Reader.+literals.Goals as goal

pub literal_text-returns-in-Truth-clause-gives : goal.literal_text-returns-in-Truth-clause-gives
literal_text-returns-in-Truth-clause-gives t c =
    rw (truth_at c.args.room c.args.op c.args.self.now c.in-Truth.truth c.in-Truth.ensures, c.truth_leaf.ensures, c.advance.ensures) refl

pub literal_text-returns-in-Number-clause-gives : goal.literal_text-returns-in-Number-clause-gives
literal_text-returns-in-Number-clause-gives t c = rw (number_at c.args.room c.args.op c.args.self.now c.in-Number.ensures) c.number_leaf.ensures.gives

pub literal_text-returns-in-List-clause-gives : goal.literal_text-returns-in-List-clause-gives
literal_text-returns-in-List-clause-gives t c = rw (list_at c.args.room c.args.op c.args.self.now c.in-List.ensures c.if-room-gt0.true) c.list_part.ensures.gives

pub literal_text-returns-in-List-2-clause-gives : goal.literal_text-returns-in-List-2-clause-gives
literal_text-returns-in-List-2-clause-gives t c =
    rw c.refusal_for.ensures (deep_list_at c.args.room c.args.op c.args.self.now c.in-List-2.ensures (omega (arith, c.if-room-gt0.false)))

pub literal_text-returns-in-Nothing-clause-gives : goal.literal_text-returns-in-Nothing-clause-gives
literal_text-returns-in-Nothing-clause-gives t c = rw (nothing_at c.args.room c.args.op c.args.self.now c.in-Nothing.ensures, c.unexpected_token.ensures) refl

pub some_literals-returns-in-Err-clause-gives : goal.some_literals-returns-in-Err-clause-gives
some_literals-returns-in-Err-clause-gives t c =
    fails {C = Vec Literal Global} (λ literals. map literal_of literals.items) c.in-Err.fail c.literal_text.new.self c.literal_text.new.self
    (is_literal c.args.room c.args.op) c.loop-literal.invariant c.in-Err.ensures.gives

pub some_literals-returns-then-not-pass-clause-gives : goal.some_literals-returns-then-not-pass-clause-gives
some_literals-returns-then-not-pass-clause-gives t c =
    ends c.in-Ok.literal c.push.new.self.items c.literal_text.new.self c.pass.new.self c.pass.result (is_literal c.args.room c.args.op) c.loop-literal.invariant
    c.in-Ok.ensures.gives c.in_ok-push-in-Ok.ensures.items c.pass.ensures.is c.pass.ensures.after c.if-not-pass.true

pub some_literals-loop-literal-preserved : goal.some_literals-loop-literal-preserved
some_literals-loop-literal-preserved t c =
    goes_on c.in-Ok.literal c.push.new.self.items c.literal_text.new.self c.pass.new.self c.pass.result (is_literal c.args.room c.args.op) c.loop-literal.invariant
    c.in-Ok.ensures.gives c.in_ok-push-in-Ok.ensures.items c.pass.ensures.is c.pass.ensures.after c.if-not-pass.false c.in-Ok.ensures.shorter
    (c.pass.ensures.shorter c.if-not-pass.false)

pub parts_text-returns-in-Ok-clause-gives : goal.parts_text-returns-in-Ok-clause-gives
unfolding parts_text
parts_text-returns-in-Ok-clause-gives t c = rw (c.in_ok-want.ensures.gives, c.in-Ok.ensures.gives, c.in_order.ensures) refl

pub parts_text-returns-in-Err-clause-gives : goal.parts_text-returns-in-Err-clause-gives
unfolding parts_text
parts_text-returns-in-Err-clause-gives t c =
    rw c.in_ok-want.ensures.gives
    (on_err {A = Vec Literal Global} (λ literals. map literal_of literals.items) literals_in c.in-Err.fail c.literals_text.new.self c.literals_text.new.self _ _ c.in-Err.ensures.gives)
