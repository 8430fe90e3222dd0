use Rattle.std.proofs.Common.{ℕ, [], List, subst, sym, ◌∙◌}
use Rattle.std.proofs.lemmas.Bool.{and_parts}
use Rattle.resolution_proof.specs.declared.literal.Literal.{Literal}
use Rattle.resolution_proof.specs.Literal.{is_once}
use Rattle.resolution_proof.specs.Clause.{is_within}
use Rattle.clause_learning.specs.Watching.{IsStored}
use Rattle.clause_learning.specs.Watcher.{IsProgress}
use Rattle.clause_learning.proofs.StoredClauses.{stored_clause_of}
use Rattle.clause_learning.proofs.Adding.{watching_unchanged, progress_reset}
use Rattle.clause_learning.proofs.watcher.Watcher.add_clause.Goals as goal

pub add-requires-clause-stored_clause : goal.add-requires-clause-stored_clause
add-requires-clause-stored_clause c =
    let once = (and_parts (is_once c.args.clause) (is_within c.args.self.now.trail.variables c.args.clause) c.requires.clause).0 in
    subst (λ (r : List Literal). IsStored c.args.clause r) (sym (c.in_ok-stored_clause.ensures ∙ c.as_slice.ensures.literals)) (stored_clause_of c.args.clause once)

pub returns-clause-watching : goal.returns-clause-watching
returns-clause-watching c =
    let w = c.requires.watching in
    let e = c.in_ok-add.ensures in
    let p = progress_reset c.args.self.now.table.stored_clauses.items c.in_ok-stored_clause.stored_clause c.args.self.now.table.short.items c.add.new.self.short.items c.args.self.now.trail.entries c.args.self.now.head c.args.self.now.marks.items c.args.self.now.short_head c.args.self.now.base w.table.short w.progress e.ok.longer e.ok.short in
    let q = subst (λ (x : List (List Literal)). IsProgress x c.add.new.self.short.items c.args.self.now.trail.entries 0 [] c.args.self.now.short_head c.args.self.now.base) (sym e.ok.stored_clauses) p in
    let r = subst (λ (x : List ℕ). IsProgress c.add.new.self.stored_clauses.items c.add.new.self.short.items c.args.self.now.trail.entries 0 x c.args.self.now.short_head c.args.self.now.base) (sym c.clear.ensures.items) q in
    record { table = e.table; variables = w.variables ∙ sym e.variables; progress = r }

pub returns-in_err-add-clause-watching : goal.returns-in_err-add-clause-watching
returns-in_err-add-clause-watching c = watching_unchanged c.args.self.now c.add.new.self c.requires.watching c.in_err-add.ensures.table c.in_err-add.ensures.variables c.in_err-add.ensures.err
