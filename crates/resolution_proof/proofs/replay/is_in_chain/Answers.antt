use Rattle.std.proofs.Common.{◌++◌, List, ap, ◌∙◌, sym}
use Rattle.std.proofs.lemmas.Bool.{eq-eqb, ne_eqb}
use Rattle.resolution_proof.specs.declared.log.Hint.{Hint}
use Rattle.resolution_proof.specs.Literal.{holds}
use Rattle.resolution_proof.specs.Replay.{learnt_clauses, chain_end}
use Rattle.resolution_proof.proofs.Chains.{chain_away, chain_found, chain_before}
use Rattle.resolution_proof.proofs.replay.is_in_chain.Goals as goal

pub returns-then-literal-last : goal.returns-then-literal-last
returns-then-literal-last c =
    let known = c.args.given.now ++ learnt_clauses c.args.steps.now in
    let parts = ap (λ (hs : List Hint). holds (chain_end known c.args.start.now hs) c.args.literal) c.in-Some.ensures.cases.0 in
    sym (c.loop-last.invariant ∙ parts ∙ chain_away known c.args.start.now c.in-Some.earlier.now c.in-Some.last.now c.args.literal (eq-eqb c.args.literal.variable c.in-Some.last.now.pivot c.if-literal-last.true))

pub returns-then-has_literal : goal.returns-then-has_literal
returns-then-has_literal c =
    let known = c.args.given.now ++ learnt_clauses c.args.steps.now in
    let parts = ap (λ (hs : List Hint). holds (chain_end known c.args.start.now hs) c.args.literal) c.in-Some.ensures.cases.0 in
    let found = sym c.if-has_literal.ensures in
    sym (c.loop-last.invariant ∙ parts ∙ chain_found known c.args.start.now c.in-Some.earlier.now c.in-Some.last.now c.args.literal (ne_eqb c.args.literal.variable c.in-Some.last.now.pivot c.if-literal-last.false) (rw c.clause_of.ensures.literals at found))

pub loop-last-preserved : goal.loop-last-preserved
loop-last-preserved c =
    let known = c.args.given.now ++ learnt_clauses c.args.steps.now in
    let parts = ap (λ (hs : List Hint). holds (chain_end known c.args.start.now hs) c.args.literal) c.in-Some.ensures.cases.0 in
    let none = sym c.if-has_literal.ensures in
    c.loop-last.invariant ∙ parts ∙ chain_before known c.args.start.now c.in-Some.earlier.now c.in-Some.last.now c.args.literal (ne_eqb c.args.literal.variable c.in-Some.last.now.pivot c.if-literal-last.false) (rw c.clause_of.ensures.literals at none)
