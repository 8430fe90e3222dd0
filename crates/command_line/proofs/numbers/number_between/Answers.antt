use Rattle.std.proofs.Common.{◌≡◌, ◌∙◌, true, subst, sym, arith}
use Rattle.command_line.specs.Numbers.{is_numeral}
use Rattle.command_line.proofs.Numerals.{parsed, unparsed}
use Rattle.command_line.proofs.numbers.number_between.Goals as goal

pub returns-in-Ok-clause-is : goal.returns-in-Ok-clause-is
returns-in-Ok-clause-is c =
    c.if_between.ensures.is
    ∙ parsed c.args.text.now (subst (λ t. is_numeral t ≡ true) c.as_bytes.ensures.value (sym c.is_numeral.ensures ∙ c.if-not-is_numeral.false)) c.args.least c.args.most c.in-Ok.number c.parse.result
    c.parse.ensures.value.0 c.in-Ok.is

pub returns-in-Err-clause-is : goal.returns-in-Err-clause-is
returns-in-Err-clause-is c =
    unparsed c.args.text.now (subst (λ t. is_numeral t ≡ true) c.as_bytes.ensures.value (sym c.is_numeral.ensures ∙ c.if-not-is_numeral.false)) c.args.least c.args.most c.parse.result (omega arith)
    c.parse.ensures.value.0 c.in-Err.is
