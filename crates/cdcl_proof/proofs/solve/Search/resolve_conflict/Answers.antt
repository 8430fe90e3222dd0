use Rattle.std.proofs.Common.{ℕ, true, ◌≡◌, ◌⊎◌, inl, inr, List, ◌++◌, [], ◌∷◌, take, ap, subst, sym, ◌∙◌, arith}
use Rattle.resolution_proof.specs.declared.literal.Literal.{Literal}
use Rattle.clause_learning.specs.declared.trail.Entry.{Entry}
use Rattle.resolution_proof.specs.Clause.{is_clause}
use Rattle.resolution_proof.specs.Formula.{Formula}
use Rattle.clause_learning.specs.Trail.{IsSound, literals}
use Rattle.resolution_proof.specs.Literal.{mentions}
use Rattle.cdcl_proof.specs.Order.{IsOrder, Waits}
use Rattle.clause_learning.specs.Watching.{Watching}
use Rattle.cdcl_proof.proofs.Keeping.{logged_push}
use Rattle.clause_learning.proofs.Adding.{sound_propagates, not_empty, mentions_kept, backjump_keeps, search_learns}
use Rattle.cdcl_proof.proofs.solve.Search.resolve_conflict.Goals as goal

pub learn-requires-2-clause-clause : goal.learn-requires-2-clause-clause
learn-requires-2-clause-clause c =
    let l = search_learns c.args.self.now.watched c.trail.result.now c.clauses.result.now c.in_ok-learnt.learnt.step c.in_ok-learnt.learnt.position c.trail.ensures c.clauses.ensures.clauses c.in_ok-learnt.ensures.learnt in
    let b = backjump_keeps c.args.self.now.watched c.insert_variables.new.self.watched c.back_to.new.self c.in_ok-learnt.learnt.position c.in_ok-insert_variables.ensures.watched c.back_to.ensures in
    rw b.variables l.clause

pub learn-requires-2-clause-full : goal.learn-requires-2-clause-full
learn-requires-2-clause-full c =
    let l = search_learns c.args.self.now.watched c.trail.result.now c.clauses.result.now c.in_ok-learnt.learnt.step c.in_ok-learnt.learnt.position c.trail.ensures c.clauses.ensures.clauses c.in_ok-learnt.ensures.learnt in
    not_empty c.in_ok-learnt.learnt.step.clause l.full

pub learn-requires-2-clause-free : goal.learn-requires-2-clause-free
learn-requires-2-clause-free c =
    let l = search_learns c.args.self.now.watched c.trail.result.now c.clauses.result.now c.in_ok-learnt.learnt.step c.in_ok-learnt.learnt.position c.trail.ensures c.clauses.ensures.clauses c.in_ok-learnt.ensures.learnt in
    let b = backjump_keeps c.args.self.now.watched c.insert_variables.new.self.watched c.back_to.new.self c.in_ok-learnt.learnt.position c.in_ok-insert_variables.ensures.watched c.back_to.ensures in
    rw b.entries l.free

pub learn-requires-2-clause-others : goal.learn-requires-2-clause-others
learn-requires-2-clause-others c =
    let l = search_learns c.args.self.now.watched c.trail.result.now c.clauses.result.now c.in_ok-learnt.learnt.step c.in_ok-learnt.learnt.position c.trail.ensures c.clauses.ensures.clauses c.in_ok-learnt.ensures.learnt in
    let b = backjump_keeps c.args.self.now.watched c.insert_variables.new.self.watched c.back_to.new.self c.in_ok-learnt.learnt.position c.in_ok-insert_variables.ensures.watched c.back_to.ensures in
    rw b.entries l.others

pub returns-clause-searching : goal.returns-clause-searching
returns-clause-searching c =
    let l = search_learns c.args.self.now.watched c.trail.result.now c.clauses.result.now c.in_ok-learnt.learnt.step c.in_ok-learnt.learnt.position c.trail.ensures c.clauses.ensures.clauses c.in_ok-learnt.ensures.learnt in
    let b = backjump_keeps c.args.self.now.watched c.insert_variables.new.self.watched c.back_to.new.self c.in_ok-learnt.learnt.position c.in_ok-insert_variables.ensures.watched c.back_to.ensures in
    let e = c.in_ok-learn.ensures in
    let s = c.requires.searching in
    let r = c.in_ok-insert_variables.ensures.searching in
    let step = c.in_ok-learnt.learnt.step in
    let new = c.learn-2.new.self in
    let inserted : c.insert_variables.new.self.watched.variables ≡ c.args.self.now.watched.variables = ap (λ (w : Watching). w.variables) c.in_ok-insert_variables.ensures.watched in
    let variables : new.variables ≡ c.args.self.now.watched.variables = e.variables ∙ b.variables in
    let clauses : new.clauses ≡ c.args.self.now.watched.clauses ++ step.clause ∷ [] = e.clauses ∙ ap (λ (cs : List (List Literal)). cs ++ step.clause ∷ []) b.clauses in
    let before : IsSound new.variables new.clauses c.back_to.new.self.entries = rw (variables, clauses, b.entries) l.sound in
    let clause = subst (λ (n : ℕ). is_clause n step.clause ≡ true) s.variables l.clause in
    let logged = logged_push c.args.self.now.cnf.now c.args.self.now.watched.clauses c.args.self.now.chains.items s.logged step.hints step.clause clause l.derived l.regular l.fresh l.full in
    record {
      variables = variables ∙ s.variables ∙ ap (λ (f : Formula). f.variables) (sym c.in_ok-insert_variables.ensures.formula);
      logged = rw (c.in_ok-insert_variables.ensures.formula, clauses, c.in_ok-push.ensures.items, c.in_ok-insert_variables.ensures.chains) logged;
      sound = sound_propagates new.variables new.clauses c.back_to.new.self.entries new.entries e.within before e.propagates;
      seen = r.seen ∙ inserted ∙ sym variables;
      order = subst (λ (n : ℕ). IsOrder n c.insert_variables.new.self.order) (inserted ∙ sym variables) r.order;
      phases = r.phases ∙ inserted ∙ sym variables;
    }

pub returns-clause-waiting : goal.returns-clause-waiting
returns-clause-waiting c v low high =
    let b = backjump_keeps c.args.self.now.watched c.insert_variables.new.self.watched c.back_to.new.self c.in_ok-learnt.learnt.position c.in_ok-insert_variables.ensures.watched c.back_to.ensures in
    let e = c.in_ok-learn.ensures in
    let n = e.variables in
    let variables = b.variables in
    let same = c.in_ok-insert_variables.ensures.watched in
    let inserted : c.insert_variables.new.self.watched.variables ≡ c.args.self.now.watched.variables = ap (λ (w : Watching). w.variables) same in
    let prefix : take c.in_ok-learnt.learnt.position c.insert_variables.new.self.watched.entries ≡ c.back_to.new.self.entries = ap (λ (w : Watching). take c.in_ok-learnt.learnt.position w.entries) same ∙ sym b.entries in
    elim (c.in_ok-insert_variables.ensures.waiting v low (omega (arith, high, n, variables, inserted))) as (λ _. Waits c.insert_variables.new.self.order.heap.items v ⊎ (mentions (literals c.learn-2.new.self.entries) v ≡ true)) [
      | inl w ↦ inl w
      | inr m ↦ inr (mentions_kept c.back_to.new.self.entries c.learn-2.new.self.entries v e.propagates.kept (subst (λ (es : List Entry). mentions (literals es) v ≡ true) prefix m))
    ]
