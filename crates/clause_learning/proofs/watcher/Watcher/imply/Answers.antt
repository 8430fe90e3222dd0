use Rattle.std.proofs.Common.{Some, refl}
use Rattle.resolution_proof.specs.Clause.{is_among}
use Rattle.resolution_proof.specs.Replay.{clause_at}
use Rattle.resolution_proof.proofs.Sets.{all_at}
use Rattle.clause_learning.proofs.Sound.{clause_within}
use Rattle.clause_learning.proofs.Covering.{progress_push, propagates_push}
use Rattle.clause_learning.proofs.watcher.Watcher.imply.Goals as goal

pub add-requires-clause-among : goal.add-requires-clause-among
add-requires-clause-among c =
    let w = c.requires.watching in
    let among = all_at (is_among c.args.self.now.table.variables) (clause_at c.args.self.now.table.clauses.items c.args.number) c.args.literal
    (clause_within c.args.self.now.table.variables c.args.self.now.table.clauses.items c.args.number w.table.clauses) c.requires.implied.within in
    rw w.variables among

pub returns-clause-watching : goal.returns-clause-watching
returns-clause-watching c =
    let w = c.requires.watching in
    let p = progress_push c.args.self.now.table.stored_clauses.items c.args.self.now.table.short.items c.args.self.now.trail.entries
    (record { literal = c.args.literal; reason = Some c.args.number }) c.args.self.now.head c.args.self.now.marks.items c.args.self.now.short_head c.args.self.now.base w.progress in
    rw c.add.ensures.added (record { table = w.table; variables = w.variables; progress = p })

pub returns-clause-propagates : goal.returns-clause-propagates
returns-clause-propagates c = rw c.add.ensures.added (propagates_push c.args.self.now.table.clauses.items c.args.self.now.trail.entries
    (record { literal = c.args.literal; reason = Some c.args.number }) c.args.number refl c.requires.implied c.requires.free)
