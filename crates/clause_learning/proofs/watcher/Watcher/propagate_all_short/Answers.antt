use Rattle.std.proofs.Common.{◌∙◌}
use Rattle.clause_learning.proofs.Visiting.{propagates_on}
use Rattle.clause_learning.proofs.watcher.Watcher.propagate_all_short.Goals as goal

pub returns-in-Some-clause-propagates : goal.returns-in-Some-clause-propagates
returns-in-Some-clause-propagates c =
    propagates_on c.args.self.now.trail.entries c.loop-self.self c.propagate_short.new.self c.propagate_short.ensures.clauses c.loop-self.invariant.propagates c.propagate_short.ensures.propagates

pub loop-self-preserved : goal.loop-self-preserved
loop-self-preserved c =
    let e = c.propagate_short.ensures in
    let i = c.loop-self.invariant in
    record {
      watching = e.watching;
      clauses = e.clauses ∙ i.clauses;
      variables = e.variables
          ∙ i.variables;
      propagates = propagates_on c.args.self.now.trail.entries c.loop-self.self c.propagate_short.new.self c.propagate_short.ensures.clauses c.loop-self.invariant.propagates c.propagate_short.ensures.propagates;
    }
