use Rattle.clause_learning.proofs.Covering.{progress_reset_short}
use Rattle.clause_learning.proofs.watcher.Watcher.reset_short.Goals as goal

pub returns-clause-watching : goal.returns-clause-watching
returns-clause-watching c =
    let w = c.requires in
    record { table = w.table; variables = w.variables; progress = progress_reset_short c.args.self.now.table.stored_clauses.items c.args.self.now.table.short.items c.args.self.now.trail.entries c.args.self.now.head c.args.self.now.marks.items c.args.self.now.short_head c.args.self.now.base w.progress }
