use Rattle.std.proofs.Common.{◌≡◌, ◌≤◌, true, false, ap, ◌∙◌, sym, subst, arith}
use Rattle.clause_learning.specs.declared.trail.Entry.{Entry}
use Rattle.clause_learning.specs.Learning.{is_seen_entry}
use Rattle.clause_learning.proofs.Sound.{clause_once}
use Rattle.clause_learning.proofs.Resolution.{resolve_step, analysis_down}
use Rattle.clause_learning.proofs.resolving.resolve_entry.Goals as goal

pub returns-in_ok-push-in-Some : goal.returns-in_ok-push-in-Some
returns-in_ok-push-in-Some c =
    let why = ap (λ (e : Entry). e.reason) (sym c.entry-entry.ensures.entry) ∙ c.in-Some.is in
    let marked = subst (λ (e : Entry). is_seen_entry c.args.seen.now e ≡ true) c.entry-entry.ensures.entry (sym c.is_marked.ensures ∙ c.if-not-is_marked.false) in
    let once = clause_once c.args.trail.now.variables c.args.clauses.now c.in-Some.reason c.requires.clauses in
    let high = c.requires.floor in
    let above : c.args.level.floor ≤ c.args.position = omega (arith, high) in
    let step = resolve_step c.args.trail.now.variables c.args.clauses.now c.args.trail.now.entries c.requires.sound c.entry-entry.ensures.apart c.args.position c.in-Some.reason c.requires.position why
    c.args.level.floor c.args.level.keep c.args.count c.resolve_at.result c.args.hints.now.items c.args.seen.now c.resolve_at.new.seen marked c.requires.analysis above c.requires.level once c.resolve_at.ensures.marks c.resolve_at.ensures.count c.resolve_at.ensures.len in
    record { analysis = rw (c.in_ok-push-in-Some.ensures.items, c.entry-entry.ensures.entry) step }

pub returns-then-not-is_marked : goal.returns-then-not-is_marked
returns-then-not-is_marked c =
    let unmarked = subst (λ (e : Entry). is_seen_entry c.args.seen.now e ≡ false) c.entry-entry.ensures.entry (sym c.is_marked.ensures ∙ c.if-not-is_marked.true) in
    record { analysis = analysis_down c.args.trail.now.variables c.args.clauses.now c.args.trail.now.entries c.args.level.floor c.args.level.keep c.args.position c.args.count c.args.hints.now.items c.args.seen.now c.requires.position unmarked c.requires.analysis }
