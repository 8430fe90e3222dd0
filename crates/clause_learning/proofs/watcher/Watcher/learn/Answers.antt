use Rattle.std.proofs.Common.{rules, refl, ℕ, true, ◌≡◌, ◌<◌, ◌≤◌, ◌-◌, ◌++◌, ◌∷◌, [], Some, List, length, get_or, take, ap, subst, sym, ◌∙◌, arith}
use Rattle.std.proofs.lemmas.Bool.{and_parts}
use Rattle.std.proofs.lemmas.List.{length_push}
use Rattle.resolution_proof.specs.declared.literal.Literal.{Literal}
use Rattle.resolution_proof.specs.Literal.{holds, is_once}
use Rattle.resolution_proof.specs.Clause.{is_among, is_within}
use Rattle.resolution_proof.specs.Fresh.{is_free, is_unit}
use Rattle.clause_learning.specs.Trail.{literals, is_after, Implies}
use Rattle.clause_learning.specs.Watching.{literal_at}
use Rattle.clause_learning.specs.Watcher.{IsProgress}
use Rattle.resolution_proof.specs.Replay.{clause_at}
use Rattle.resolution_proof.proofs.Sets.{all_at, all_from}
use Rattle.clause_learning.proofs.StoredClauses.{holds_at}
use Rattle.clause_learning.proofs.Covering.{propagates_push}
use Rattle.clause_learning.proofs.Adding.{watching_unchanged, prefix_literal, stored_clause_in_prefix, progress_learnt, clause_last, number_last}
use Rattle.clause_learning.proofs.watcher.Watcher.learn.Goals as goal

pub add-requires-clause-stored_clause : goal.add-requires-clause-stored_clause
add-requires-clause-stored_clause c =
    stored_clause_in_prefix c.args.self.now.trail.variables c.args.clause c.in_ok-stored_clause.stored_clause c.bring_last.new.stored_clause c.requires.clause
    (c.in_ok-stored_clause.ensures ∙ c.as_slice.ensures.literals) c.bring_last.ensures.same

pub marks_kept-kept-requires : goal.marks_kept-kept-requires
marks_kept-kept-requires c =
    let stored_clause = stored_clause_in_prefix c.args.self.now.trail.variables c.args.clause c.in_ok-stored_clause.stored_clause c.bring_last.new.stored_clause c.requires.clause
    (c.in_ok-stored_clause.ensures ∙ c.as_slice.ensures.literals) c.bring_last.ensures.same in
    let within = (and_parts (is_once c.args.clause) (is_within c.args.self.now.trail.variables c.args.clause) c.requires.clause).1 in
    rw c.as_slice-literals.ensures (all_from (is_among c.args.self.now.trail.variables) c.bring_last.new.stored_clause (λ l h. all_at (is_among c.args.self.now.trail.variables) c.args.clause l within (sym (stored_clause.same l) ∙ h)))

pub add-requires-2-clause-among : goal.add-requires-2-clause-among
add-requires-2-clause-among c =
    let w = c.requires.watching in
    let b = prefix_literal c.args.self.now.trail.variables c.args.clause c.in_ok-stored_clause.stored_clause c.bring_last.new.stored_clause c.as_slice-literals.result.now c.index-literals-0.result c.literal-literal.result c.requires.clause c.requires.full (c.in_ok-stored_clause.ensures ∙ c.as_slice.ensures.literals) c.bring_last.ensures.same c.bring_last.ensures.first c.as_slice-literals.ensures c.index-literals-0.is c.literal-literal.ensures in
    subst (λ (l : Literal). is_among c.args.self.now.trail.variables l ≡ true) b.is_last (all_at (is_among c.args.self.now.trail.variables) c.args.clause
    (literal_at c.args.clause (length c.args.clause - 1)) b.within (holds_at c.args.clause (length c.args.clause - 1) (let f = c.requires.full in omega (arith, f))))

pub add-requires-2-clause-free : goal.add-requires-2-clause-free
add-requires-2-clause-free c =
    let w = c.requires.watching in
    let b = prefix_literal c.args.self.now.trail.variables c.args.clause c.in_ok-stored_clause.stored_clause c.bring_last.new.stored_clause c.as_slice-literals.result.now c.index-literals-0.result c.literal-literal.result c.requires.clause c.requires.full (c.in_ok-stored_clause.ensures ∙ c.as_slice.ensures.literals) c.bring_last.ensures.same c.bring_last.ensures.first c.as_slice-literals.ensures c.index-literals-0.is c.literal-literal.ensures in
    subst (λ (l : Literal). is_free (literals c.args.self.now.trail.entries) l ≡ true) b.is_last c.requires.free

pub returns-clause-watching : goal.returns-clause-watching
returns-clause-watching c =
    let w = c.requires.watching in
    let b = prefix_literal c.args.self.now.trail.variables c.args.clause c.in_ok-stored_clause.stored_clause c.bring_last.new.stored_clause c.as_slice-literals.result.now c.index-literals-0.result c.literal-literal.result c.requires.clause c.requires.full (c.in_ok-stored_clause.ensures ∙ c.as_slice.ensures.literals) c.bring_last.ensures.same c.bring_last.ensures.first c.as_slice-literals.ensures c.index-literals-0.is c.literal-literal.ensures in
    let e = c.in_ok-add.ensures in
    let free = subst (λ (l : Literal). is_free (literals c.args.self.now.trail.entries) l ≡ true) b.is_last c.requires.free in
    let kept_in : c.marks_kept-kept.result ≤ length c.args.self.now.marks.items = let n = ap length c.deref.ensures.value in omega (arith, n, c.marks_kept-kept.ensures.within) in
    let ordered = c.bring_last.new.stored_clause in
    let after : 0 < c.marks_kept-kept.result → 1 < length ordered → is_after c.args.self.now.trail.entries (get_or c.args.self.now.marks.items (c.marks_kept-kept.result - 1) 0)
    (literal_at ordered 1).variable ≡ true = λ h two. subst (λ (xs : List ℕ). is_after c.args.self.now.trail.entries (get_or xs (c.marks_kept-kept.result - 1) 0)
    (literal_at ordered 1).variable ≡ true) c.deref.ensures.value (subst (λ (r : List Literal). is_after c.args.self.now.trail.entries
    (get_or c.deref.result.now (c.marks_kept-kept.result - 1) 0) (literal_at r 1).variable ≡ true) c.as_slice-literals.ensures
    (c.marks_kept-kept.ensures.last h (let lits = ap length c.as_slice-literals.ensures in omega (arith, two, lits)))) in
    let p = progress_learnt c.args.self.now.trail.variables c.args.self.now.table.stored_clauses.items c.bring_last.new.stored_clause c.args.self.now.table.short.items c.add.new.self.short.items c.args.self.now.trail.entries (record { literal = c.literal-literal.result; reason = Some c.len-number.result }) c.args.self.now.head c.args.self.now.marks.items c.args.self.now.short_head c.args.self.now.base c.marks_kept-kept.result c.variables.ensures.apart w.table.short w.progress e.ok.longer e.ok.short b.some b.first free kept_in after in
    let q = subst (λ (x : List (List Literal)). IsProgress x c.add.new.self.short.items (c.args.self.now.trail.entries
    ++ (record { literal = c.literal-literal.result; reason = Some c.len-number.result }) ∷ []) c.args.self.now.head
    (take c.marks_kept-kept.result c.args.self.now.marks.items) c.args.self.now.short_head c.args.self.now.base) (sym e.ok.stored_clauses) p in
    let r = subst (λ (x : List ℕ). IsProgress c.add.new.self.stored_clauses.items c.add.new.self.short.items
    (c.args.self.now.trail.entries ++ (record { literal = c.literal-literal.result; reason = Some c.len-number.result })
    ∷ []) c.args.self.now.head x c.args.self.now.short_head c.args.self.now.base) (sym c.truncate.ensures.items) q in
    rw c.add-2.ensures.added (record { table = e.table; variables = w.variables ∙ sym e.variables; progress = r })

pub returns-in_err-add-clause-watching : goal.returns-in_err-add-clause-watching
returns-in_err-add-clause-watching c = watching_unchanged c.args.self.now c.add.new.self c.requires.watching c.in_err-add.ensures.table c.in_err-add.ensures.variables c.in_err-add.ensures.err

pub returns-clause-propagates : goal.returns-clause-propagates
returns-clause-propagates c =
    let w = c.requires.watching in
    let b = prefix_literal c.args.self.now.trail.variables c.args.clause c.in_ok-stored_clause.stored_clause c.bring_last.new.stored_clause c.as_slice-literals.result.now c.index-literals-0.result c.literal-literal.result c.requires.clause c.requires.full (c.in_ok-stored_clause.ensures ∙ c.as_slice.ensures.literals) c.bring_last.ensures.same c.bring_last.ensures.first c.as_slice-literals.ensures c.index-literals-0.is c.literal-literal.ensures in
    let e = c.in_ok-add.ensures in
    let number : c.len-number.result ≡ length c.add.new.self.stored_clauses.items = search rules in
    let count = e.table.stored_clauses.count in
    let pushed = ap length e.ok.clauses in
    let m = length_push c.args.self.now.table.clauses.items c.args.clause in
    let own : clause_at c.add.new.self.clauses.items c.len-number.result ≡ c.args.clause = clause_last c.args.self.now.table.clauses.items c.add.new.self.clauses.items c.args.clause c.len-number.result e.ok.clauses (number ∙ count) in
    let implies : Implies c.add.new.self.clauses.items c.len-number.result (literals c.args.self.now.trail.entries) c.literal-literal.result = record {
      number = number_last c.args.self.now.table.clauses.items c.add.new.self.clauses.items c.args.clause c.len-number.result e.ok.clauses (number ∙ count);
      within = subst (λ (x : List Literal). holds x c.literal-literal.result ≡ true) (sym own)
          (subst (λ (l : Literal). holds c.args.clause l ≡ true) b.is_last (holds_at c.args.clause (length c.args.clause - 1) (let f = c.requires.full in omega (arith, f))));
      others = subst (λ (x : List Literal). is_unit (literals c.args.self.now.trail.entries) c.literal-literal.result x ≡ true) (sym own)
          (subst (λ (l : Literal). is_unit (literals c.args.self.now.trail.entries) l c.args.clause ≡ true) b.is_last c.requires.others);
    } in
    rw c.add-2.ensures.added (propagates_push c.add.new.self.clauses.items c.args.self.now.trail.entries
    (record { literal = c.literal-literal.result; reason = Some c.len-number.result }) c.len-number.result refl implies
    (subst (λ (l : Literal). is_free (literals c.args.self.now.trail.entries) l ≡ true) b.is_last c.requires.free))
