use Rattle.std.proofs.Common.{map}
use Rattle.hw_model.specs.Kinds.{Literal}
use Rattle.hw_model.specs.KindViews.{literal_of, literals_of}
use Rattle.stored_form.specs.Bytes.{Each}
use Rattle.stored_form.specs.Limits.{IsLiteral, AreLiterals}
use Rattle.stored_form.proofs.Lists.{not_each, each_all, same_fact}
use Rattle.stored_form.proofs.Nested.{each_literal, literals_are}
use Rattle.stored_form.proofs.literals.+literal.Goals as goal

pub are_literals-returns-then-not-is_literal : goal.are_literals-returns-then-not-is_literal
are_literals-returns-then-not-is_literal t c =
    let ls = map literal_of c.args.literals.now in
    let P = λ (l : Literal). IsLiteral l c.args.room in
    same_fact (Each P ls) (AreLiterals (literals_of ls) c.args.room) _
    (not_each P literal_of c.args.literals.now c.loop-literal.literal-index c.literal-item.result c.is_literal.result c.loop-literal-test.true c.literal-item.is c.is_literal.ensures
    c.if-not-is_literal.true)
    (literals_are ls c.args.room) (each_literal ls c.args.room)

pub are_literals-returns : goal.are_literals-returns
are_literals-returns t c =
    let ls = map literal_of c.args.literals.now in
    let P = λ (l : Literal). IsLiteral l c.args.room in
    same_fact (Each P ls) (AreLiterals (literals_of ls) c.args.room) _
    (each_all P literal_of c.args.literals.now c.loop-literal.literal-index c.loop-literal-test.false c.loop-literal.invariant)
    (literals_are ls c.args.room) (each_literal ls c.args.room)
