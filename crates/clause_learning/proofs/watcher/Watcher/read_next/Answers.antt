use Rattle.std.proofs.Common.{rules, refl, ℕ, true, ◌≡◌, ◌<◌, ◌+◌, ◌^◌, length, subst, ap, ◌∙◌, arith}
use Rattle.clause_learning.specs.declared.trail.Entry.{Entry}
use Rattle.resolution_proof.specs.Literal.{negation}
use Rattle.clause_learning.specs.Watching.{slot_of}
use Rattle.resolution_proof.specs.Clause.{is_among}
use Rattle.clause_learning.specs.Trail.{entry_at}
use Rattle.clause_learning.proofs.Entries.{length_below}
use Rattle.clause_learning.proofs.Visiting.{propagates_on, slot_low, still_at_head, progress_next}
use Rattle.clause_learning.proofs.watcher.Watcher.read_next.Goals as goal

pub overflow_add-self : goal.overflow_add-self
overflow_add-self c =
    let w = c.requires.watching in
    let bound = length_below c.args.self.now.trail.variables c.args.self.now.trail.entries c.entry-entry.ensures.apart in
    let small = w.table.small in
    let variables = w.variables in
    let e = c.in-Ok-None.ensures in
    let head = e.head in
    let more = c.requires.more in
    let low : c.read_list.new.self.head + 1 < 2 ^ 64 = omega (arith, bound, small, variables, head, more) in
    search rules

pub returns-in-Ok-None-read_list-clause-watching : goal.returns-in-Ok-None-read_list-clause-watching
returns-in-Ok-None-read_list-clause-watching c =
    let e1 = c.read_list.ensures in
    let w1 = e1.watching in
    let e = c.in-Ok-None-read_list.ensures in
    let w = e.watching in
    let visited = rw c.in-Ok-None-read_list.field-0-is at e.visited in
    let old = c.requires.watching in
    let is_old : c.slot-slot.result ≡ slot_of (negation (entry_at c.args.self.now.trail.entries c.args.self.now.head).literal) = c.slot-slot.ensures
    ∙ ap slot_of (c.new.ensures ∙ c.negation.ensures) ∙ ap (λ (x : Entry). slot_of (negation x.literal)) c.entry-entry.ensures.entry in
    let among : is_among c.args.self.now.table.variables (negation (entry_at c.args.self.now.trail.entries c.args.self.now.head).literal)
    ≡ true = subst (λ (n : ℕ). is_among n (negation (entry_at c.args.self.now.trail.entries c.args.self.now.head).literal) ≡ true) old.variables
    (c.entry-entry.ensures.apart.among c.args.self.now.head c.requires.more) in
    let low : c.slot-slot.result < length c.args.self.now.table.lists.items = let s = slot_low c.args.self.now.table old.table
    (negation (entry_at c.args.self.now.trail.entries c.args.self.now.head).literal) among in omega (arith, s, is_old) in
    let h1 = still_at_head c.args.self.now c.read_list.new.self c.slot-slot.result old w1 e1.variables e1.head e1.propagates c.requires.more is_old low in
    let h = still_at_head c.read_list.new.self c.read_list-2.new.self c.slot-slot.result w1 w e.variables e.head e.propagates h1.more h1.slot_is h1.low in
    record { table = w.table; variables = w.variables; progress = progress_next c.read_list-2.new.self.table w.table c.read_list-2.new.self.trail.entries c.read_list-2.new.self.head c.slot-slot.result c.read_list-2.new.self.marks.items c.read_list-2.new.self.short_head c.read_list-2.new.self.base h.more h.slot_is h.low (visited refl) w.progress }

pub returns-in-Ok-None-read_list-clause-propagates : goal.returns-in-Ok-None-read_list-clause-propagates
returns-in-Ok-None-read_list-clause-propagates c = propagates_on c.args.self.now.trail.entries c.read_list.new.self c.read_list-2.new.self c.read_list-2.ensures.clauses c.read_list.ensures.propagates c.read_list-2.ensures.propagates

pub returns-in_default-read_list-clause-propagates : goal.returns-in_default-read_list-clause-propagates
returns-in_default-read_list-clause-propagates c = propagates_on c.args.self.now.trail.entries c.read_list.new.self c.read_list-2.new.self c.read_list-2.ensures.clauses c.read_list.ensures.propagates c.read_list-2.ensures.propagates

pub returns-in_default-read_list-2-clause-propagates : goal.returns-in_default-read_list-2-clause-propagates
returns-in_default-read_list-2-clause-propagates c = propagates_on c.args.self.now.trail.entries c.read_list.new.self c.read_list-2.new.self c.read_list-2.ensures.clauses c.read_list.ensures.propagates c.read_list-2.ensures.propagates
