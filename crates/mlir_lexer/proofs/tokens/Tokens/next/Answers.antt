-- Each turn reads the end of a line or a gap; a token, a bad byte or the end of the text is the answer.
use Rattle.std.proofs.Common.{arith, sym, ◌∙◌}
use Rattle.std.proofs.lemmas.List.{nil_from_length}
use Rattle.mlir_lexer.specs.declared.prefixes.Prefix.TheVariants.{LineEnd, Gap, Token, Bad}
use Rattle.mlir_lexer.proofs.Steps.{begins, line_end-location, line_end-further, gap-within, gap-location, gap-further, gap-some, token-within, token-location, token-left, token-span, bad-left, end-left}
use Rattle.mlir_lexer.proofs.tokens.Tokens.next.Goals as goal

pub end_line-requires-clause-end : goal.end_line-requires-clause-end
end_line-requires-clause-end c = line_end-location (begins c.loop-first.self c.in-Some.first.now c.in-Some.following.now LineEnd c.rest.ensures.rest c.in-Some.ensures.cases.0 c.in-LineEnd.ensures)

pub loop-first-preserved-in-LineEnd : goal.loop-first-preserved-in-LineEnd
loop-first-preserved-in-LineEnd c =
    rw c.end_line.ensures (line_end-further (begins c.loop-first.self c.in-Some.first.now c.in-Some.following.now LineEnd c.rest.ensures.rest c.in-Some.ensures.cases.0 c.in-LineEnd.ensures) c.loop-first.invariant)

pub pass-requires-clause-within : goal.pass-requires-clause-within
pass-requires-clause-within c = gap-within c.in-Gap.count (begins c.loop-first.self c.in-Some.first.now c.in-Some.following.now (Gap c.in-Gap.count) c.rest.ensures.rest c.in-Some.ensures.cases.0 c.in-Gap.ensures)

pub pass-requires-clause-line : goal.pass-requires-clause-line
pass-requires-clause-line c = gap-location c.in-Gap.count (begins c.loop-first.self c.in-Some.first.now c.in-Some.following.now (Gap c.in-Gap.count) c.rest.ensures.rest c.in-Some.ensures.cases.0 c.in-Gap.ensures)

pub loop-first-smaller : goal.loop-first-smaller
loop-first-smaller c =
    let some = gap-some c.in-Gap.count (begins c.loop-first.self c.in-Some.first.now c.in-Some.following.now (Gap c.in-Gap.count) c.rest.ensures.rest c.in-Some.ensures.cases.0 c.in-Gap.ensures)
    in
    let within = gap-within c.in-Gap.count (begins c.loop-first.self c.in-Some.first.now c.in-Some.following.now (Gap c.in-Gap.count) c.rest.ensures.rest c.in-Some.ensures.cases.0 c.in-Gap.ensures)
    in rw c.pass.ensures (omega (arith, some, within))

pub loop-first-preserved : goal.loop-first-preserved
loop-first-preserved c =
    rw c.pass.ensures (gap-further c.in-Gap.count (begins c.loop-first.self c.in-Some.first.now c.in-Some.following.now (Gap c.in-Gap.count) c.rest.ensures.rest c.in-Some.ensures.cases.0 c.in-Gap.ensures) c.loop-first.invariant)

pub token-requires-clause-within : goal.token-requires-clause-within
token-requires-clause-within c =
    token-within c.in-Token.kind c.in-Token.count (begins c.loop-first.self c.in-Some.first.now c.in-Some.following.now (Token c.in-Token.kind c.in-Token.count) c.rest.ensures.rest c.in-Some.ensures.cases.0 c.in-Token.ensures)

pub token-requires-clause-line : goal.token-requires-clause-line
token-requires-clause-line c =
    token-location c.in-Token.kind c.in-Token.count (begins c.loop-first.self c.in-Some.first.now c.in-Some.following.now (Token c.in-Token.kind c.in-Token.count) c.rest.ensures.rest c.in-Some.ensures.cases.0 c.in-Token.ensures)

pub returns-in-Token-clause-gives : goal.returns-in-Token-clause-gives
returns-in-Token-clause-gives c =
    rw (c.token.ensures.token, c.token.ensures.after) (token-left c.in-Token.kind c.in-Token.count (begins c.loop-first.self c.in-Some.first.now c.in-Some.following.now (Token c.in-Token.kind c.in-Token.count) c.rest.ensures.rest c.in-Some.ensures.cases.0 c.in-Token.ensures) c.loop-first.invariant)

pub returns-in-Token-clause-reads : goal.returns-in-Token-clause-reads
returns-in-Token-clause-reads c =
    rw (c.token.ensures.token, c.token.ensures.after) (token-span c.in-Token.kind c.in-Token.count (begins c.loop-first.self c.in-Some.first.now c.in-Some.following.now (Token c.in-Token.kind c.in-Token.count) c.rest.ensures.rest c.in-Some.ensures.cases.0 c.in-Token.ensures) c.loop-first.invariant)

pub returns-in-Bad-clause-gives : goal.returns-in-Bad-clause-gives
returns-in-Bad-clause-gives c =
    rw c.refusal.ensures (bad-left c.in-Bad.before (begins c.loop-first.self c.in-Some.first.now c.in-Some.following.now (Bad c.in-Bad.before) c.rest.ensures.rest c.in-Some.ensures.cases.0 c.in-Bad.ensures) c.loop-first.invariant, c.loop-first.invariant.same)

pub returns-clause-gives : goal.returns-clause-gives
returns-clause-gives c = end-left (sym c.rest.ensures.rest ∙ nil_from_length c.rest.result.now c.in_default.ensures.cases) c.loop-first.invariant
