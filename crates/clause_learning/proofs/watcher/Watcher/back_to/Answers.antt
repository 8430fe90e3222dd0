use Rattle.std.proofs.Common.{ℕ, ◌≡◌, ◌<◌, ◌≤◌, ◌-◌, List, length, get_or, take, ap, subst, sym, ◌∙◌, arith}
use Rattle.clause_learning.specs.Watcher.{IsProgress}
use Rattle.clause_learning.specs.Trail.{Path}
use Rattle.clause_learning.proofs.Covering.{progress_back}
use Rattle.clause_learning.proofs.watcher.Watcher.back_to.Goals as goal

pub returns-clause-watching : goal.returns-clause-watching
returns-clause-watching c =
    let w = c.reset_short.ensures.watching in
    let u = c.reset_short.new.self in
    let held : c.args.n ≤ length c.reset_short.new.self.trail.entries = let e = ap (λ (p : Path). length p.entries) c.reset_short.ensures.trail in omega (arith, e, c.requires.within) in
    let kept_in : c.marks_up_to-kept.result ≤ length c.reset_short.new.self.marks.items = let e = ap length c.deref.ensures.value in omega (arith, e, c.marks_up_to-kept.ensures.within) in
    let last : 0 < c.marks_up_to-kept.result → get_or c.reset_short.new.self.marks.items (c.marks_up_to-kept.result - 1) 0 ≤ c.args.n = λ h. subst
    (λ (xs : List ℕ). get_or xs (c.marks_up_to-kept.result - 1) 0 ≤ c.args.n) c.deref.ensures.value (c.marks_up_to-kept.ensures.last h) in
    let some : 0 < c.marks_up_to-kept.result → c.mark_before-head.result ≡ get_or c.reset_short.new.self.marks.items (c.marks_up_to-kept.result - 1) 0 = λ h. c.mark_before-head.ensures.last h
    ∙ ap (λ (xs : List ℕ). get_or xs (c.marks_up_to-kept.result - 1) 0) c.deref-2.ensures.value in
    let p = progress_back c.reset_short.new.self.table.stored_clauses.items c.reset_short.new.self.table.short.items c.reset_short.new.self.trail.entries c.reset_short.new.self.head c.reset_short.new.self.marks.items c.reset_short.new.self.short_head c.reset_short.new.self.base c.args.n c.marks_up_to-kept.result c.mark_before-head.result w.progress held c.reset_short.ensures.base kept_in last c.mark_before-head.ensures.none some in
    let q = subst (λ (xs : List ℕ). IsProgress c.reset_short.new.self.table.stored_clauses.items c.reset_short.new.self.table.short.items
    (take c.args.n c.reset_short.new.self.trail.entries) c.mark_before-head.result xs c.reset_short.new.self.short_head c.reset_short.new.self.base) (sym c.truncate.ensures.items) p in
    rw c.cut.ensures (record { table = w.table; variables = w.variables; progress = q })
