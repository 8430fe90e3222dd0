use Rattle.std.proofs.Common.{ℕ, true, ◌≡◌, ◌<◌, ◌+◌, ◌++◌, ◌∷◌, [], Some, List, length, get_or, ap, subst, sym, refl, arith}
use Rattle.std.proofs.lemmas.Bool.{and_parts}
use Rattle.resolution_proof.specs.declared.literal.Literal.{Literal}
use Rattle.clause_learning.specs.declared.trail.Entry.{Entry}
use Rattle.clause_learning.specs.declared.table.Table.{Table}
use Rattle.resolution_proof.specs.Literal.{holds, is_once}
use Rattle.resolution_proof.specs.Clause.{is_within, is_clause}
use Rattle.clause_learning.specs.Trail.{Path, literals}
use Rattle.clause_learning.specs.Watching.{stored_clause_at, is_satisfied}
use Rattle.resolution_proof.proofs.Sets.{any_from}
use Rattle.clause_learning.proofs.Sound.{all_clauses}
use Rattle.clause_learning.proofs.Covering.{reads_short, closed_short, stored_clause_satisfied, progress_short, last_holds}
use Rattle.clause_learning.proofs.watcher.Watcher.propagate_short.Goals as goal

pub state_of-requires : goal.state_of-requires
state_of-requires c =
    let w = c.requires.watching in
    let r = reads_short c.args.self.now.table.clauses.items c.args.self.now.table.stored_clauses.items c.args.self.now.table.short.items c.args.self.now.short_head c.index-index.result.now c.as_slice-clause.result.now c.index.result.now w.table.stored_clauses w.table.short c.requires.more c.index-index.ensures c.as_slice-clause.ensures.literals c.index.ensures in
    let own = all_clauses (is_clause c.args.self.now.table.variables) refl c.args.self.now.table.clauses.items c.index-index.result.now w.table.clauses in
    let within = (and_parts (is_once (stored_clause_at c.args.self.now.table.clauses.items c.index-index.result.now))
    (is_within c.args.self.now.table.variables (stored_clause_at c.args.self.now.table.clauses.items c.index-index.result.now)) own).1 in
    rw (w.variables, r.is_clause) within

pub returns-in-Closed-clause-watching : goal.returns-in-Closed-clause-watching
returns-in-Closed-clause-watching c =
    let w = c.requires.watching in
    let t = c.args.self.now.table in
    let s = literals c.args.self.now.trail.entries in
    let r = reads_short c.args.self.now.table.clauses.items c.args.self.now.table.stored_clauses.items c.args.self.now.table.short.items c.args.self.now.short_head c.index-index.result.now c.as_slice-clause.result.now c.index.result.now w.table.stored_clauses w.table.short c.requires.more c.index-index.ensures c.as_slice-clause.ensures.literals c.index.ensures in
    let yes_clause = closed_short s c.as_slice-clause.result.now r.few c.in-Closed.ensures in
    let satisfied = stored_clause_satisfied t.clauses.items t.stored_clauses.items w.table.stored_clauses s c.index-index.result.now r.inside (subst (λ (x : List Literal). is_satisfied s x ≡ true) r.is_clause yes_clause) in
    let at : is_satisfied s (stored_clause_at t.stored_clauses.items (get_or t.short.items c.args.self.now.short_head 0)) ≡ true = subst (λ (i : ℕ). is_satisfied s (stored_clause_at t.stored_clauses.items i) ≡ true) r.is_index satisfied in
    let p = progress_short t.stored_clauses.items t.short.items c.args.self.now.trail.entries c.args.self.now.head c.args.self.now.marks.items c.args.self.now.short_head c.args.self.now.base w.progress c.requires.more at in
    record { table = w.table; variables = w.variables; progress = rw c.len-self.ensures.len p }

pub returns-in-Open-clause-watching : goal.returns-in-Open-clause-watching
returns-in-Open-clause-watching c =
    let old = c.requires.watching in
    let w = c.imply.ensures.watching in
    let t = c.imply.new.self.table in
    let es = c.imply.new.self.trail.entries in
    let more : c.imply.new.self.short_head < length c.imply.new.self.table.short.items = let a = ap (λ (x : Table). length x.short.items) c.imply.ensures.table in omega (arith, a, c.imply.ensures.short_head, c.requires.more) in
    let r = reads_short c.args.self.now.table.clauses.items c.args.self.now.table.stored_clauses.items c.args.self.now.table.short.items c.args.self.now.short_head c.index-index.result.now c.as_slice-clause.result.now c.index.result.now old.table.stored_clauses old.table.short c.requires.more c.index-index.ensures c.as_slice-clause.ensures.literals c.index.ensures in
    let entries_are : c.imply.new.self.trail.entries ≡ c.args.self.now.trail.entries ++ record { literal = c.in-Open.literal; reason = Some (c.index-index.result.now + 1) } ∷ [] = ap (λ (x : Path). x.entries) c.imply.ensures.trail in
    let held : holds (literals c.imply.new.self.trail.entries) c.in-Open.literal ≡ true = subst (λ (x : List Entry). holds (literals x) c.in-Open.literal ≡ true) (sym entries_are)
    (last_holds c.args.self.now.trail.entries (record { literal = c.in-Open.literal; reason = Some (c.index-index.result.now + 1) })) in
    let within : holds (stored_clause_at c.args.self.now.table.clauses.items c.index-index.result.now) c.in-Open.literal ≡ true = subst (λ (x : List Literal). holds x c.in-Open.literal ≡ true) r.is_clause c.in-Open.ensures.0 in
    let yes_clause : is_satisfied (literals c.imply.new.self.trail.entries) (stored_clause_at c.args.self.now.table.clauses.items c.index-index.result.now)
    ≡ true = any_from (holds (literals c.imply.new.self.trail.entries)) (stored_clause_at c.args.self.now.table.clauses.items c.index-index.result.now) c.in-Open.literal within held in
    let satisfied = stored_clause_satisfied c.args.self.now.table.clauses.items c.args.self.now.table.stored_clauses.items old.table.stored_clauses (literals c.imply.new.self.trail.entries) c.index-index.result.now r.inside yes_clause in
    let at_old : is_satisfied (literals c.imply.new.self.trail.entries) (stored_clause_at c.args.self.now.table.stored_clauses.items
    (get_or c.args.self.now.table.short.items c.args.self.now.short_head 0)) ≡ true = subst
    (λ (i : ℕ). is_satisfied (literals c.imply.new.self.trail.entries) (stored_clause_at c.args.self.now.table.stored_clauses.items i) ≡ true) r.is_index satisfied in
    let at_table : is_satisfied (literals c.imply.new.self.trail.entries) (stored_clause_at c.imply.new.self.table.stored_clauses.items
    (get_or c.imply.new.self.table.short.items c.args.self.now.short_head 0)) ≡ true = subst
    (λ (x : Table). is_satisfied (literals c.imply.new.self.trail.entries) (stored_clause_at x.stored_clauses.items (get_or x.short.items c.args.self.now.short_head 0)) ≡ true)
    (sym c.imply.ensures.table) at_old in
    let at : is_satisfied (literals c.imply.new.self.trail.entries) (stored_clause_at c.imply.new.self.table.stored_clauses.items
    (get_or c.imply.new.self.table.short.items c.imply.new.self.short_head 0)) ≡ true = subst
    (λ (n : ℕ). is_satisfied (literals c.imply.new.self.trail.entries) (stored_clause_at c.imply.new.self.table.stored_clauses.items (get_or c.imply.new.self.table.short.items n 0)) ≡ true)
    (sym c.imply.ensures.short_head) at_table in
    let p = progress_short c.imply.new.self.table.stored_clauses.items c.imply.new.self.table.short.items c.imply.new.self.trail.entries c.imply.new.self.head c.imply.new.self.marks.items c.imply.new.self.short_head c.imply.new.self.base w.progress more at in
    record { table = w.table; variables = w.variables; progress = rw c.len-self-in-Open.ensures.len p }
