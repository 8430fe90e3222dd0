use Rattle.std.proofs.Common.{ℕ, ◌≤◌, List, length, subst, sym, arith}
use Rattle.clause_learning.specs.Watching.{AreMarks}
use Rattle.clause_learning.proofs.Covering.{marks_more}
use Rattle.clause_learning.proofs.watcher.Watcher.mark.Goals as goal

pub returns-then-len-capacity-clause-watching : goal.returns-then-len-capacity-clause-watching
returns-then-len-capacity-clause-watching c =
    let w = c.requires in
    let p = w.progress in
    let read : length c.args.self.now.trail.entries ≤ c.args.self.now.head = omega (arith, c.len.ensures.len, c.if-self-len.false) in
    let m = marks_more c.args.self.now.table.stored_clauses.items c.args.self.now.trail.entries c.args.self.now.head c.args.self.now.marks.items read p.covered p.marked in
    record {
      table = w.table;
      variables = w.variables;
      progress = record {
        head_in = p.head_in;
        covered = p.covered;
        marked = subst (λ (xs : List ℕ). AreMarks c.args.self.now.table.stored_clauses.items c.args.self.now.trail.entries c.args.self.now.head xs) (sym c.push_reserved.ensures.items) m;
        short_head_in = p.short_head_in;
        base_in = p.base_in;
        short_true = p.short_true;
      };
    }
