use Rattle.std.proofs.Common.{None}
use Rattle.clause_learning.proofs.Covering.{progress_push}
use Rattle.clause_learning.proofs.watcher.Watcher.assume.Goals as goal

pub returns-clause-watching : goal.returns-clause-watching
returns-clause-watching c =
    let m = c.mark.ensures.watching in
    let p = progress_push c.mark.new.self.table.stored_clauses.items c.mark.new.self.table.short.items c.mark.new.self.trail.entries
    (record { literal = c.args.literal; reason = None }) c.mark.new.self.head c.mark.new.self.marks.items c.mark.new.self.short_head c.mark.new.self.base m.progress in
    rw c.add.ensures.added (record { table = m.table; variables = m.variables; progress = p })
