use Rattle.std.proofs.Common.{◌≡◌, List, true, ap, ◌∙◌, sym, subst}
use Rattle.std.specs.List.{list_all}
use Rattle.resolution_proof.specs.declared.literal.Literal.{Literal}
use Rattle.clause_learning.specs.declared.trail.Entry.{Entry}
use Rattle.clause_learning.specs.Learning.{is_seen_entry, is_seen_literal}
use Rattle.clause_learning.proofs.Regularity.{pivots_later, pivots_more}
use Rattle.clause_learning.proofs.Marking.{count_seen-before}
use Rattle.clause_learning.proofs.Resolution.{subsumed}
use Rattle.clause_learning.proofs.minimising.subsume.Goals as goal

pub returns-in_ok-push-in-Some-clause-resolving : goal.returns-in_ok-push-in-Some-clause-resolving
returns-in_ok-push-in-Some-clause-resolving c =
    let at = c.entry-entry.ensures.entry in
    let why = ap (λ (e : Entry). e.reason) (sym at) ∙ c.in-Some.is in
    let marked = subst (λ (e : Entry). is_seen_entry c.args.seen.now e ≡ true) at (sym c.is_marked.ensures ∙ c.if-not-is_marked.false) in
    let all = subst (λ (xs : List Literal). list_all (is_seen_literal c.args.seen.now) xs ≡ true) c.clause_of.ensures (sym c.are_marked.ensures ∙ c.if-not-are_marked.false) in
    let less = subsumed c.args.trail.now.variables c.args.clauses.now c.args.trail.now.entries c.requires.sound c.entry-entry.ensures.apart c.args.position c.in-Some.number c.requires.position why c.args.hints.now.items c.args.seen.now c.requires.seen marked all c.requires.resolving c.requires.pivots in
    rw (c.in_ok-push-in-Some.ensures.items, c.unmark.ensures, at) less

pub returns-in_ok-push-in-Some-clause-pivots : goal.returns-in_ok-push-in-Some-clause-pivots
returns-in_ok-push-in-Some-clause-pivots c =
    rw c.in_ok-push-in-Some.ensures.items (pivots_more c.args.trail.now.entries c.args.position c.args.hints.now.items
    (record { clause = c.in-Some.number; pivot = c.entry-entry.result.literal.variable }) c.requires.pivots c.requires.position
    (ap (λ (e : Entry). e.literal.variable) (sym c.entry-entry.ensures.entry)))

pub returns-in_ok-push-in-Some-clause-count : goal.returns-in_ok-push-in-Some-clause-count
returns-in_ok-push-in-Some-clause-count c floor below =
    rw (c.unmark.ensures, c.entry-entry.ensures.entry) (count_seen-before c.args.trail.now.variables c.args.seen.now c.args.trail.now.entries floor c.args.position c.entry-entry.ensures.apart c.requires.position below)

pub returns-then-not-are_marked-clause-pivots : goal.returns-then-not-are_marked-clause-pivots
returns-then-not-are_marked-clause-pivots c = pivots_later c.args.trail.now.entries c.args.position c.args.hints.now.items c.requires.pivots

pub returns-then-not-is_marked-clause-pivots : goal.returns-then-not-is_marked-clause-pivots
returns-then-not-is_marked-clause-pivots c = pivots_later c.args.trail.now.entries c.args.position c.args.hints.now.items c.requires.pivots

pub returns-in-None-clause-pivots : goal.returns-in-None-clause-pivots
returns-in-None-clause-pivots c = pivots_later c.args.trail.now.entries c.args.position c.args.hints.now.items c.requires.pivots
