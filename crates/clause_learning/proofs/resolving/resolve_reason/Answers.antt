use Rattle.std.proofs.Common.{◌≡◌, ◌≤◌, true, length, ap, ◌∙◌, sym, subst, arith}
use Rattle.resolution_proof.specs.declared.literal.Literal.{Literal}
use Rattle.clause_learning.specs.declared.trail.Entry.{Entry}
use Rattle.clause_learning.specs.Learning.{is_seen_entry}
use Rattle.clause_learning.specs.Resolving.{Resolves}
use Rattle.resolution_proof.specs.Replay.{clause_at}
use Rattle.resolution_proof.proofs.Sets.{among_low, among_high}
use Rattle.clause_learning.specs.Trail.{entry_at}
use Rattle.clause_learning.proofs.Entries.{variable_at}
use Rattle.clause_learning.proofs.Regularity.{pivots_later, pivots_more}
use Rattle.clause_learning.proofs.Marking.{resolves_by, count_seen-end}
use Rattle.clause_learning.proofs.Resolution.{resolving_more, count_above}
use Rattle.clause_learning.proofs.resolving.resolve_reason.Goals as goal

pub mark_clause-requires-clause-count : goal.mark_clause-requires-clause-count
mark_clause-requires-clause-count c = rw c.len.ensures.len (sym (count_seen-end c.unmark.new.self c.args.trail.now.entries))

pub returns-in_ok-push-in-Some-clause-resolving : goal.returns-in_ok-push-in-Some-clause-resolving
returns-in_ok-push-in-Some-clause-resolving c =
    let at = c.entry-entry.ensures.entry in
    let why = ap (λ (e : Entry). e.reason) (sym at) ∙ c.in-Some.is in
    let marked = subst (λ (e : Entry). is_seen_entry c.args.seen.now e ≡ true) at (sym c.is_marked.ensures ∙ c.if-not-is_marked.false) in
    let among = c.entry-entry.ensures.apart.among c.args.position c.requires.position in
    let top = among_high c.args.trail.now.variables (entry_at c.args.trail.now.entries c.args.position).literal among in
    let len = c.requires.seen in
    let high : variable_at c.args.trail.now.entries c.args.position ≤ length c.args.seen.now = omega (arith, top, len) in
    let marks = resolves_by c.args.seen.now c.unmark.new.self c.mark_clause.new.seen c.entry-entry.result.literal.variable (variable_at c.args.trail.now.entries c.args.position) c.clause_of.result.now
    (clause_at c.args.clauses.now c.in-Some.number) (among_low c.args.trail.now.variables (entry_at c.args.trail.now.entries c.args.position).literal among) high
    (ap (λ (e : Entry). e.literal.variable) at) c.unmark.ensures c.clause_of.ensures c.mark_clause.ensures.marks in
    let more = resolving_more c.args.trail.now.variables c.args.clauses.now c.args.trail.now.entries c.requires.sound c.entry-entry.ensures.apart c.args.position c.in-Some.number c.requires.position why
    c.args.hints.now.items c.args.seen.now c.mark_clause.new.seen marked c.requires.resolving c.requires.pivots marks in
    rw (c.in_ok-push-in-Some.ensures.items, at) more

pub returns-in_ok-push-in-Some-clause-pivots : goal.returns-in_ok-push-in-Some-clause-pivots
returns-in_ok-push-in-Some-clause-pivots c =
    rw c.in_ok-push-in-Some.ensures.items (pivots_more c.args.trail.now.entries c.args.position c.args.hints.now.items
    (record { clause = c.in-Some.number; pivot = c.entry-entry.result.literal.variable }) c.requires.pivots c.requires.position
    (ap (λ (e : Entry). e.literal.variable) (sym c.entry-entry.ensures.entry)))

pub returns-in_ok-push-in-Some-clause-count : goal.returns-in_ok-push-in-Some-clause-count
returns-in_ok-push-in-Some-clause-count c floor below =
    let at = c.entry-entry.ensures.entry in
    let why = ap (λ (e : Entry). e.reason) (sym at) ∙ c.in-Some.is in
    let among = c.entry-entry.ensures.apart.among c.args.position c.requires.position in
    let top = among_high c.args.trail.now.variables (entry_at c.args.trail.now.entries c.args.position).literal among in
    let len = c.requires.seen in
    let high : variable_at c.args.trail.now.entries c.args.position ≤ length c.args.seen.now = omega (arith, top, len) in
    let marks = resolves_by c.args.seen.now c.unmark.new.self c.mark_clause.new.seen c.entry-entry.result.literal.variable (variable_at c.args.trail.now.entries c.args.position) c.clause_of.result.now
    (clause_at c.args.clauses.now c.in-Some.number) (among_low c.args.trail.now.variables (entry_at c.args.trail.now.entries c.args.position).literal among) high
    (ap (λ (e : Entry). e.literal.variable) at) c.unmark.ensures c.clause_of.ensures c.mark_clause.ensures.marks in
    count_above c.args.trail.now.variables c.args.clauses.now c.args.trail.now.entries c.requires.sound c.entry-entry.ensures.apart c.args.position c.in-Some.number c.requires.position why
    floor c.args.seen.now c.mark_clause.new.seen below marks

pub returns-then-not-is_marked-clause-pivots : goal.returns-then-not-is_marked-clause-pivots
returns-then-not-is_marked-clause-pivots c = pivots_later c.args.trail.now.entries c.args.position c.args.hints.now.items c.requires.pivots

pub returns-in-None-clause-pivots : goal.returns-in-None-clause-pivots
returns-in-None-clause-pivots c = pivots_later c.args.trail.now.entries c.args.position c.args.hints.now.items c.requires.pivots
