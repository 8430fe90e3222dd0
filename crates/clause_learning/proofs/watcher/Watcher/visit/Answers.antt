use Rattle.std.proofs.Common.{Global, ℕ, true, false, ◌≡◌, ◌<◌, ◌+◌, ◌-◌, Some, List, length, ap, subst, sym, ◌∙◌, refl, arith}
use Rattle.std.specs.declared.vec.Vec.{Vec}
use Rattle.clause_learning.specs.declared.stored_clause.StoredClause.{StoredClause}
use Rattle.resolution_proof.specs.declared.literal.Literal.{Literal}
use Rattle.clause_learning.specs.declared.stored_clause.Watch.{Watch}
use Rattle.clause_learning.specs.declared.trail.Entry.{Entry}
use Rattle.clause_learning.specs.declared.table.Table.{Table}
use Rattle.resolution_proof.specs.Literal.{negation, holds}
use Rattle.clause_learning.specs.Trail.{Path, literals}
use Rattle.resolution_proof.specs.Fresh.{is_unit}
use Rattle.clause_learning.specs.Learning.{falsifies}
use Rattle.clause_learning.specs.Propagation.{IsConflict}
use Rattle.clause_learning.specs.Watching.{stored_clause_at, list_at, watch_at, literal_at, no_literal, is_satisfied, ArePermuted, slot_of}
use Rattle.clause_learning.specs.Watcher.{IsProgress}
use Rattle.std.proofs.lemmas.List.{get_or_read}
use Rattle.resolution_proof.proofs.Sets.{any_from}
use Rattle.clause_learning.proofs.StoredClauses.{holds_at}
use Rattle.clause_learning.proofs.AddedClauses.{among_stored_clause, list_inside}
use Rattle.clause_learning.proofs.Covering.{implied_by_stored_clause, conflict_by_stored_clause, last_holds}
use Rattle.clause_learning.proofs.Visiting.{same_clauses, same_from, visits, watched_false, moved_permuted, progress_moved}
use Rattle.clause_learning.proofs.watcher.Watcher.visit.Goals as goal

pub is_true-requires : goal.is_true-requires
is_true-requires c =
    let w = c.requires.watching in
    let blocks = subst (λ (x : Watch). holds (stored_clause_at c.args.self.now.table.stored_clauses.items x.clause) x.blocker ≡ true) (sym c.requires.watch)
    (w.table.blockers c.args.slot c.args.position (list_inside c.args.self.now.table.lists.items c.args.slot c.args.position c.requires.position) c.requires.position) in
    let among = among_stored_clause c.args.self.now.table w.table c.args.watch.clause c.args.watch.blocker blocks in
    rw (w.variables, c.literal.ensures) among

pub returns-then-is_true-clause-visit : goal.returns-then-is_true-clause-visit
returns-then-is_true-clause-visit c =
    let w = c.requires.watching in
    let blocks = w.table.blockers c.args.slot c.args.position (list_inside c.args.self.now.table.lists.items c.args.slot c.args.position c.requires.position) c.requires.position in
    let held : holds (literals c.args.self.now.trail.entries) (watch_at (list_at c.args.self.now.table.lists.items c.args.slot) c.args.position).blocker
    ≡ true = ap (holds (literals c.args.self.now.trail.entries)) (ap (λ (x : Watch). x.blocker) (sym c.requires.watch) ∙ sym c.literal.ensures) ∙ sym c.is_true.ensures ∙ c.if-is_true.true in (
      refl,
      same_clauses (list_at c.args.self.now.table.lists.items c.args.slot),
      any_from (holds (literals c.args.self.now.trail.entries))
          (stored_clause_at c.args.self.now.table.stored_clauses.items (watch_at (list_at c.args.self.now.table.lists.items c.args.slot) c.args.position).clause)
          (watch_at (list_at c.args.self.now.table.lists.items c.args.slot) c.args.position).blocker blocks held,
    )

pub watched_position-first-requires : goal.watched_position-first-requires
watched_position-first-requires c =
    let w = c.requires.watching in
    let v = visits c.args.self.now.table w.table c.args.slot c.args.position c.args.watch c.as_slice-stored_clause.result.now c.index.result.now
    (list_inside c.args.self.now.table.lists.items c.args.slot c.args.position c.requires.position) c.requires.position c.requires.watch c.as_slice-stored_clause.ensures c.index.ensures in
    omega (arith, v.long)

pub read_stored_clause-requires-clause-within : goal.read_stored_clause-requires-clause-within
read_stored_clause-requires-clause-within c =
    let w = c.requires.watching in
    let v = visits c.args.self.now.table w.table c.args.slot c.args.position c.args.watch c.as_slice-stored_clause.result.now c.index.result.now
    (list_inside c.args.self.now.table.lists.items c.args.slot c.args.position c.requires.position) c.requires.position c.requires.watch c.as_slice-stored_clause.ensures c.index.ensures in
    rw w.variables v.within

pub bounds-stored_clause-first : goal.bounds-stored_clause-first
bounds-stored_clause-first c =
    let w = c.requires.watching in
    let v = visits c.args.self.now.table w.table c.args.slot c.args.position c.args.watch c.as_slice-stored_clause.result.now c.index.result.now
    (list_inside c.args.self.now.table.lists.items c.args.slot c.args.position c.requires.position) c.requires.position c.requires.watch c.as_slice-stored_clause.ensures c.index.ensures in
    omega (arith, v.long)

pub read_stored_clause-requires-clause-long : goal.read_stored_clause-requires-clause-long
read_stored_clause-requires-clause-long c =
    let w = c.requires.watching in
    let v = visits c.args.self.now.table w.table c.args.slot c.args.position c.args.watch c.as_slice-stored_clause.result.now c.index.result.now
    (list_inside c.args.self.now.table.lists.items c.args.slot c.args.position c.requires.position) c.requires.position c.requires.watch c.as_slice-stored_clause.ensures c.index.ensures in
    v.long

pub read_stored_clause-requires-clause-watched : goal.read_stored_clause-requires-clause-watched
read_stored_clause-requires-clause-watched c =
    let w = c.requires.watching in
    let v = visits c.args.self.now.table w.table c.args.slot c.args.position c.args.watch c.as_slice-stored_clause.result.now c.index.result.now
    (list_inside c.args.self.now.table.lists.items c.args.slot c.args.position c.requires.position) c.requires.position c.requires.watch c.as_slice-stored_clause.ensures c.index.ensures in
    watched_false c.args.self.now.trail.entries c.args.self.now.head (literal_at c.as_slice-stored_clause.result.now c.watched_position-first.result) c.requires.head (c.watched_position-first.ensures.watched v.watched ∙ c.requires.slot)

pub move_watch-requires-clause-watched : goal.move_watch-requires-clause-watched
move_watch-requires-clause-watched c =
    let w = c.requires.watching in
    let v = visits c.args.self.now.table w.table c.args.slot c.args.position c.args.watch c.as_slice-stored_clause.result.now c.index.result.now
    (list_inside c.args.self.now.table.lists.items c.args.slot c.args.position c.requires.position) c.requires.position c.requires.watch c.as_slice-stored_clause.ensures c.index.ensures in
    ap (λ (x : List Literal). slot_of (literal_at x c.watched_position-first.result)) (ap (λ (x : Watch). stored_clause_at c.args.self.now.table.stored_clauses.items x.clause) (sym c.requires.watch)
    ∙ v.is_stored) ∙ c.watched_position-first.ensures.watched v.watched

pub move_watch-requires-clause-inside : goal.move_watch-requires-clause-inside
move_watch-requires-clause-inside c =
    let w = c.requires.watching in
    let v = visits c.args.self.now.table w.table c.args.slot c.args.position c.args.watch c.as_slice-stored_clause.result.now c.index.result.now
    (list_inside c.args.self.now.table.lists.items c.args.slot c.args.position c.requires.position) c.requires.position c.requires.watch c.as_slice-stored_clause.ensures c.index.ensures in
    subst (λ (x : List Literal). c.in-Open.k < length x) (sym (ap (λ (x : Watch). stored_clause_at c.args.self.now.table.stored_clauses.items x.clause) (sym c.requires.watch) ∙ v.is_stored)) c.in-Open.ensures.1

pub returns-in_err-move_watch-in-Open-clause-watching : goal.returns-in_err-move_watch-in-Open-clause-watching
returns-in_err-move_watch-in-Open-clause-watching c =
    let w = c.requires.watching in
    let e = c.in_err-move_watch-in-Open.ensures in
    let p = subst (λ (x : Vec StoredClause Global). IsProgress x.items c.args.self.now.table.short.items c.args.self.now.trail.entries c.args.self.now.head c.args.self.now.marks.items c.args.self.now.short_head c.args.self.now.base) (sym e.err) w.progress in
    let q = subst (λ (x : Vec ℕ Global). IsProgress c.move_watch.new.self.stored_clauses.items x.items c.args.self.now.trail.entries c.args.self.now.head c.args.self.now.marks.items c.args.self.now.short_head c.args.self.now.base) (sym e.short) p in
    record { table = e.table; variables = w.variables ∙ sym e.variables; progress = q }

pub returns-in_ok-move_watch-in-Open-clause-watching : goal.returns-in_ok-move_watch-in-Open-clause-watching
returns-in_ok-move_watch-in-Open-clause-watching c =
    let w = c.requires.watching in
    let v = visits c.args.self.now.table w.table c.args.slot c.args.position c.args.watch c.as_slice-stored_clause.result.now c.index.result.now
    (list_inside c.args.self.now.table.lists.items c.args.slot c.args.position c.requires.position) c.requires.position c.requires.watch c.as_slice-stored_clause.ensures c.index.ensures in
    let e = c.in_ok-move_watch-in-Open.ensures in
    let i = (watch_at (list_at c.args.self.now.table.lists.items c.args.slot) c.args.position).clause in
    let i_in : (watch_at (list_at c.args.self.now.table.lists.items c.args.slot) c.args.position).clause < length c.args.self.now.table.stored_clauses.items = subst
    (λ (x : Watch). x.clause < length c.args.self.now.table.stored_clauses.items) c.requires.watch v.clause_in in
    let inside : c.in-Open.k < length (stored_clause_at c.args.self.now.table.stored_clauses.items (watch_at (list_at c.args.self.now.table.lists.items c.args.slot) c.args.position).clause) = subst
    (λ (x : List Literal). c.in-Open.k < length x) (sym (ap (λ (x : Watch). stored_clause_at c.args.self.now.table.stored_clauses.items x.clause) (sym c.requires.watch)
    ∙ v.is_stored)) c.in-Open.ensures.1 in
    let not_false : holds (literals c.args.self.now.trail.entries) (negation (literal_at (stored_clause_at c.args.self.now.table.stored_clauses.items
    (watch_at (list_at c.args.self.now.table.lists.items c.args.slot) c.args.position).clause) c.in-Open.k))
    ≡ false = subst (λ (x : List Literal). holds (literals c.args.self.now.trail.entries) (negation (literal_at x c.in-Open.k)) ≡ false)
    (sym (ap (λ (x : Watch). stored_clause_at c.args.self.now.table.stored_clauses.items x.clause) (sym c.requires.watch) ∙ v.is_stored)) c.in-Open.ensures.2 in
    let p = progress_moved c.args.self.now.table.stored_clauses.items (watch_at (list_at c.args.self.now.table.lists.items c.args.slot) c.args.position).clause c.watched_position-first.result c.in-Open.k i_in c.watched_position-first.ensures.low c.in-Open.ensures.0 inside c.args.self.now.table.short.items c.args.self.now.trail.entries c.args.self.now.head c.args.self.now.marks.items c.args.self.now.short_head c.args.self.now.base not_false w.progress in
    let r = subst (λ (x : List (List Literal)). IsProgress x c.args.self.now.table.short.items c.args.self.now.trail.entries c.args.self.now.head c.args.self.now.marks.items c.args.self.now.short_head c.args.self.now.base) (sym e.stored_clauses) p in
    let q = subst (λ (x : Vec ℕ Global). IsProgress c.move_watch.new.self.stored_clauses.items x.items c.args.self.now.trail.entries c.args.self.now.head c.args.self.now.marks.items c.args.self.now.short_head c.args.self.now.base) (sym e.short) r in
    record { table = e.table; variables = w.variables ∙ sym e.variables; progress = q }

pub returns-in_ok-move_watch-in-Open-clause-visit : goal.returns-in_ok-move_watch-in-Open-clause-visit
returns-in_ok-move_watch-in-Open-clause-visit c =
    let w = c.requires.watching in
    let v = visits c.args.self.now.table w.table c.args.slot c.args.position c.args.watch c.as_slice-stored_clause.result.now c.index.result.now
    (list_inside c.args.self.now.table.lists.items c.args.slot c.args.position c.requires.position) c.requires.position c.requires.watch c.as_slice-stored_clause.ensures c.index.ensures in
    let e = c.in_ok-move_watch-in-Open.ensures in
    let i_in : (watch_at (list_at c.args.self.now.table.lists.items c.args.slot) c.args.position).clause < length c.args.self.now.table.stored_clauses.items = subst
    (λ (x : Watch). x.clause < length c.args.self.now.table.stored_clauses.items) c.requires.watch v.clause_in in
    let inside : c.in-Open.k < length (stored_clause_at c.args.self.now.table.stored_clauses.items (watch_at (list_at c.args.self.now.table.lists.items c.args.slot) c.args.position).clause) = subst
    (λ (x : List Literal). c.in-Open.k < length x) (sym (ap (λ (x : Watch). stored_clause_at c.args.self.now.table.stored_clauses.items x.clause) (sym c.requires.watch)
    ∙ v.is_stored)) c.in-Open.ensures.1 in
    let permuted = moved_permuted c.args.self.now.table.stored_clauses.items (watch_at (list_at c.args.self.now.table.lists.items c.args.slot) c.args.position).clause c.watched_position-first.result c.in-Open.k i_in c.watched_position-first.ensures.low c.in-Open.ensures.0 inside in
    (subst (λ (x : List (List Literal)). ArePermuted c.args.self.now.table.stored_clauses.items x) (sym e.stored_clauses) permuted, e.list)

pub set_blocker-requires-clause-blocks : goal.set_blocker-requires-clause-blocks
set_blocker-requires-clause-blocks c =
    let w = c.requires.watching in
    let v = visits c.args.self.now.table w.table c.args.slot c.args.position c.args.watch c.as_slice-stored_clause.result.now c.index.result.now
    (list_inside c.args.self.now.table.lists.items c.args.slot c.args.position c.requires.position) c.requires.position c.requires.watch c.as_slice-stored_clause.ensures c.index.ensures in
    let other_in : 1 - c.watched_position-first.result < length c.as_slice-stored_clause.result.now = omega (arith, v.long) in
    let held = holds_at c.as_slice-stored_clause.result.now (1 - c.watched_position-first.result) other_in in
    let at = get_or_read c.as_slice-stored_clause.result.now (1 - c.watched_position-first.result) c.index-stored_clause-first.result other_in c.index-stored_clause-first.is no_literal in
    let here : holds c.as_slice-stored_clause.result.now c.index-stored_clause-first.result ≡ true = subst (λ (l : Literal). holds c.as_slice-stored_clause.result.now l ≡ true) (sym at) held in
    subst (λ (x : List Literal). holds x c.index-stored_clause-first.result ≡ true) (sym (ap (λ (x : Watch). stored_clause_at c.args.self.now.table.stored_clauses.items x.clause) (sym c.requires.watch) ∙ v.is_stored)) here

pub returns-in-Satisfied-clause-watching : goal.returns-in-Satisfied-clause-watching
returns-in-Satisfied-clause-watching c =
    let w = c.requires.watching in
    let e = c.set_blocker.ensures in
    let p = subst (λ (x : Vec StoredClause Global). IsProgress x.items c.args.self.now.table.short.items c.args.self.now.trail.entries c.args.self.now.head c.args.self.now.marks.items c.args.self.now.short_head c.args.self.now.base) (sym e.stored_clauses) w.progress in
    let q = subst (λ (x : Vec ℕ Global). IsProgress c.set_blocker.new.self.stored_clauses.items x.items c.args.self.now.trail.entries c.args.self.now.head c.args.self.now.marks.items c.args.self.now.short_head c.args.self.now.base) (sym e.short) p in
    record { table = e.table; variables = w.variables ∙ sym e.variables; progress = q }

pub returns-in-Satisfied-clause-visit : goal.returns-in-Satisfied-clause-visit
returns-in-Satisfied-clause-visit c =
    let w = c.requires.watching in
    let v = visits c.args.self.now.table w.table c.args.slot c.args.position c.args.watch c.as_slice-stored_clause.result.now c.index.result.now
    (list_inside c.args.self.now.table.lists.items c.args.slot c.args.position c.requires.position) c.requires.position c.requires.watch c.as_slice-stored_clause.ensures c.index.ensures in
    let e = c.set_blocker.ensures in (
      ap (λ (x : Vec StoredClause Global). x.items) e.stored_clauses,
      e.list,
      subst (λ (x : List Literal). is_satisfied (literals c.args.self.now.trail.entries) x ≡ true)
          (sym (ap (λ (x : Watch). stored_clause_at c.args.self.now.table.stored_clauses.items x.clause) (sym c.requires.watch) ∙ v.is_stored)) c.in-Satisfied.ensures,
    )

pub imply-requires-clause-implied : goal.imply-requires-clause-implied
imply-requires-clause-implied c =
    let w = c.requires.watching in
    let v = visits c.args.self.now.table w.table c.args.slot c.args.position c.args.watch c.as_slice-stored_clause.result.now c.index.result.now
    (list_inside c.args.self.now.table.lists.items c.args.slot c.args.position c.requires.position) c.requires.position c.requires.watch c.as_slice-stored_clause.ensures c.index.ensures in
    let u = c.in-Implied.literal in
    let within : holds (stored_clause_at c.args.self.now.table.stored_clauses.items c.args.watch.clause) c.in-Implied.literal
    ≡ true = subst (λ (x : List Literal). holds x c.in-Implied.literal ≡ true) (sym v.is_stored) c.in-Implied.ensures.0 in
    let unit : is_unit (literals c.args.self.now.trail.entries) c.in-Implied.literal (stored_clause_at c.args.self.now.table.stored_clauses.items c.args.watch.clause)
    ≡ true = subst (λ (x : List Literal). is_unit (literals c.args.self.now.trail.entries) c.in-Implied.literal x ≡ true) (sym v.is_stored) c.in-Implied.ensures.2 in
    rw c.from.ensures (implied_by_stored_clause c.args.self.now.table.clauses.items c.args.self.now.table.stored_clauses.items w.table.stored_clauses
    (literals c.args.self.now.trail.entries) c.args.watch.clause c.in-Implied.literal v.clause_in within unit)

pub returns-in-Implied-clause-visit : goal.returns-in-Implied-clause-visit
returns-in-Implied-clause-visit c =
    let w = c.requires.watching in
    let v = visits c.args.self.now.table w.table c.args.slot c.args.position c.args.watch c.as_slice-stored_clause.result.now c.index.result.now
    (list_inside c.args.self.now.table.lists.items c.args.slot c.args.position c.requires.position) c.requires.position c.requires.watch c.as_slice-stored_clause.ensures c.index.ensures in
    let stored_clauses = ap (λ (x : Table). x.stored_clauses.items) c.imply.ensures.table in
    let lists = ap (λ (x : Table). list_at x.lists.items c.args.slot) c.imply.ensures.table in
    let entries = ap (λ (x : Path). x.entries) c.imply.ensures.trail in
    let held : holds (literals c.imply.new.self.trail.entries) c.in-Implied.literal ≡ true = subst (λ (x : List Entry). holds (literals x) c.in-Implied.literal ≡ true) (sym entries)
    (last_holds c.args.self.now.trail.entries (record { literal = c.in-Implied.literal; reason = Some (c.from.result + 1) })) in
    let within : holds (stored_clause_at c.args.self.now.table.stored_clauses.items (watch_at (list_at c.args.self.now.table.lists.items c.args.slot) c.args.position).clause) c.in-Implied.literal
    ≡ true = subst (λ (x : List Literal). holds x c.in-Implied.literal ≡ true) (sym (ap (λ (x : Watch). stored_clause_at c.args.self.now.table.stored_clauses.items x.clause)
    (sym c.requires.watch) ∙ v.is_stored)) c.in-Implied.ensures.0 in (
      stored_clauses,
      same_from (list_at c.args.self.now.table.lists.items c.args.slot) (list_at c.imply.new.self.table.lists.items c.args.slot) lists,
      any_from
          (holds (literals c.imply.new.self.trail.entries)) (stored_clause_at c.args.self.now.table.stored_clauses.items
          (watch_at (list_at c.args.self.now.table.lists.items c.args.slot) c.args.position).clause) c.in-Implied.literal within held,
    )

pub returns-in-False-clause-visit : goal.returns-in-False-clause-visit
returns-in-False-clause-visit c =
    let w = c.requires.watching in
    let v = visits c.args.self.now.table w.table c.args.slot c.args.position c.args.watch c.as_slice-stored_clause.result.now c.index.result.now
    (list_inside c.args.self.now.table.lists.items c.args.slot c.args.position c.requires.position) c.requires.position c.requires.watch c.as_slice-stored_clause.ensures c.index.ensures in
    let falsified : falsifies (literals c.args.self.now.trail.entries) (stored_clause_at c.args.self.now.table.stored_clauses.items c.args.watch.clause)
    ≡ true = subst (λ (x : List Literal). falsifies (literals c.args.self.now.trail.entries) x ≡ true) (sym v.is_stored) c.in-False.ensures in
    subst (λ (x : Watch). IsConflict c.args.self.now.table.clauses.items (literals c.args.self.now.trail.entries) (x.clause + 1)) c.requires.watch
    (conflict_by_stored_clause c.args.self.now.table.clauses.items c.args.self.now.table.stored_clauses.items w.table.stored_clauses
    (literals c.args.self.now.trail.entries) c.args.watch.clause v.clause_in falsified)
