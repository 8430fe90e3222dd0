use Rattle.std.proofs.Common.{length, ap, arith}
use Rattle.clause_learning.specs.Watching.{list_at}
use Rattle.clause_learning.proofs.Tables.{length-swap_remove}
use Rattle.clause_learning.proofs.Visiting.{propagates_on, inside_reach, reading_on, visited_stays, visited_moved}
use Rattle.clause_learning.proofs.watcher.Watcher.read_list.Goals as goal

pub loop-position-preserved-in-Ok-Stays : goal.loop-position-preserved-in-Ok-Stays
loop-position-preserved-in-Ok-Stays c =
    let e = c.visit.ensures in
    let i = c.loop-position.invariant in
    let kept = e.propagates.kept in
    let inside = inside_reach c.loop-position.self c.args.slot c.loop-position.position c.index.result.now c.reach.result i.reading.at_head.low c.index.ensures c.reach.ensures.within c.loop-position-test.true in
    record {
      reading = reading_on c.args.self.now c.loop-position.self c.visit.new.self c.args.slot i.reading e.watching e.clauses e.short e.short_head e.head e.variables e.propagates;
      within = let v = rw c.in-Ok-Stays.field-0-is at c.in-Ok-Stays.ensures.visit in let n = v.1.len in omega (arith, n, inside);
      visited = λ all. let v = rw c.in-Ok-Stays.field-0-is at c.in-Ok-Stays.ensures.visit in visited_stays c.loop-position.self.trail.entries c.visit.new.self.trail.entries c.loop-position.self.table.stored_clauses.items c.visit.new.self.table.stored_clauses.items (list_at c.loop-position.self.table.lists.items c.args.slot) (list_at c.visit.new.self.table.lists.items c.args.slot) c.loop-position.position kept v.0 v.1 (i.visited all) v.2;
    }

pub loop-position-preserved : goal.loop-position-preserved
loop-position-preserved c =
    let e = c.visit.ensures in
    let i = c.loop-position.invariant in
    let kept = e.propagates.kept in
    let inside = inside_reach c.loop-position.self c.args.slot c.loop-position.position c.index.result.now c.reach.result i.reading.at_head.low c.index.ensures c.reach.ensures.within c.loop-position-test.true in
    record {
      reading = reading_on c.args.self.now c.loop-position.self c.visit.new.self c.args.slot i.reading e.watching e.clauses e.short e.short_head e.head e.variables e.propagates;
      within = let v = rw c.in-Ok-Moved.field-0-is at c.in-Ok-Moved.ensures.visit in let n = ap length v.1 in let m = length-swap_remove
          (list_at c.loop-position.self.table.lists.items c.args.slot) c.loop-position.position inside in omega (arith, n, m, inside);
      visited = λ all. let v = rw c.in-Ok-Moved.field-0-is at c.in-Ok-Moved.ensures.visit in visited_moved c.loop-position.self.trail.entries c.visit.new.self.trail.entries c.loop-position.self.table.stored_clauses.items c.visit.new.self.table.stored_clauses.items (list_at c.loop-position.self.table.lists.items c.args.slot) (list_at c.visit.new.self.table.lists.items c.args.slot) c.loop-position.position kept v.0 v.1 inside (i.visited all);
    }

pub returns-in-Ok-Conflict-clause-propagates : goal.returns-in-Ok-Conflict-clause-propagates
returns-in-Ok-Conflict-clause-propagates c = propagates_on c.args.self.now.trail.entries c.loop-position.self c.visit.new.self c.visit.ensures.clauses c.loop-position.invariant.reading.propagates c.visit.ensures.propagates

pub returns-in-Err-clause-propagates : goal.returns-in-Err-clause-propagates
returns-in-Err-clause-propagates c = propagates_on c.args.self.now.trail.entries c.loop-position.self c.visit.new.self c.visit.ensures.clauses c.loop-position.invariant.reading.propagates c.visit.ensures.propagates
