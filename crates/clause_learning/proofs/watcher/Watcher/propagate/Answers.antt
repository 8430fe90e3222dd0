use Rattle.std.proofs.Common.{Global, ℕ, length, ap, ◌∙◌, arith}
use Rattle.std.specs.declared.vec.Vec.{Vec}
use Rattle.clause_learning.proofs.Entries.{length_below}
use Rattle.clause_learning.proofs.Covering.{closed_all}
use Rattle.clause_learning.proofs.Visiting.{propagates_on}
use Rattle.clause_learning.proofs.watcher.Watcher.propagate.Goals as goal

pub returns-in_default-read_next-clause-propagates : goal.returns-in_default-read_next-clause-propagates
returns-in_default-read_next-clause-propagates c =
    propagates_on c.args.self.now.trail.entries c.loop-self.self c.read_next.new.self c.read_next.ensures.clauses c.loop-self.invariant.propagates c.read_next.ensures.propagates

pub returns-in_default-read_next-2-clause-propagates : goal.returns-in_default-read_next-2-clause-propagates
returns-in_default-read_next-2-clause-propagates c =
    propagates_on c.args.self.now.trail.entries c.loop-self.self c.read_next.new.self c.read_next.ensures.clauses c.loop-self.invariant.propagates c.read_next.ensures.propagates

pub loop-self-smaller : goal.loop-self-smaller
loop-self-smaller c =
    let e = c.in-Ok-None.ensures in
    let next = rw c.in-Ok-None.field-0-is at e.next in
    let i = c.loop-self.invariant in
    let bound = length_below c.loop-self.self.trail.variables c.loop-self.self.trail.entries c.len.ensures.apart in
    let len = c.len.ensures.len in
    let variables = e.variables in
    omega (arith, next, bound, len, variables, c.loop-self-test.true)

pub loop-self-preserved : goal.loop-self-preserved
loop-self-preserved c =
    let e = c.read_next.ensures in
    let i = c.loop-self.invariant in
    let short = ap (λ (x : Vec ℕ Global). length x.items) e.short in
    let all = i.all in
    let short_head = e.short_head in
    record {
      watching = e.watching;
      clauses = e.clauses ∙ i.clauses;
      variables = e.variables
          ∙ i.variables;
      propagates = propagates_on c.args.self.now.trail.entries c.loop-self.self c.read_next.new.self c.read_next.ensures.clauses c.loop-self.invariant.propagates c.read_next.ensures.propagates;
      all = omega (arith, short, all, short_head);
    }

pub returns-clause-outcome : goal.returns-clause-outcome
returns-clause-outcome c =
    let i = c.loop-self.invariant in
    let w = i.watching in
    let s = c.loop-self.self in
    closed_all c.loop-self.self.table.clauses.items c.loop-self.self.table.stored_clauses.items c.loop-self.self.table.short.items c.loop-self.self.trail.entries c.loop-self.self.head c.loop-self.self.marks.items c.loop-self.self.short_head c.loop-self.self.base w.table.stored_clauses w.table.short w.progress (omega (arith, c.len.ensures.len, c.loop-self-test.false)) i.all
