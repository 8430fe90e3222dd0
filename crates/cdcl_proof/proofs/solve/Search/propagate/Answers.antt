use Rattle.std.proofs.Common.{ℕ, true, ◌≡◌, ◌⊎◌, inl, inr, List, subst, sym, ◌∙◌, arith}
use Rattle.resolution_proof.specs.declared.literal.Literal.{Literal}
use Rattle.resolution_proof.specs.Literal.{mentions}
use Rattle.clause_learning.specs.Trail.{IsSound, literals}
use Rattle.cdcl_proof.specs.Order.{IsOrder, Waits}
use Rattle.clause_learning.proofs.Adding.{sound_propagates, mentions_kept}
use Rattle.cdcl_proof.proofs.solve.Search.propagate.Goals as goal

pub returns-clause-searching : goal.returns-clause-searching
returns-clause-searching c =
    let e = c.in_ok-conflict.ensures in
    let s = c.requires in
    let old = c.args.self.now.watched in
    let new = c.propagate.new.self in
    let sound = sound_propagates new.variables new.clauses old.entries new.entries e.within
    (subst (λ (n : ℕ). IsSound n new.clauses old.entries) (sym e.variables) (subst (λ (cs : List (List Literal)). IsSound old.variables cs old.entries) (sym e.clauses) s.sound)) e.propagates in
    record {
      variables = e.variables ∙ s.variables;
      logged = rw e.clauses s.logged;
      sound = sound;
      seen = s.seen ∙ sym e.variables;
      order = subst (λ (n : ℕ). IsOrder n c.args.self.now.order) (sym e.variables) s.order;
      phases = s.phases ∙ sym e.variables;
    }

pub returns-clause-waiting : goal.returns-clause-waiting
returns-clause-waiting c all v low high =
    let e = c.in_ok-conflict.ensures in
    elim (all v low (let n = e.variables in omega (arith, n, high))) as (λ _. Waits c.args.self.now.order.heap.items v ⊎ (mentions (literals c.propagate.new.self.entries) v ≡ true)) [
      | inl w ↦ inl w
      | inr m ↦ inr (mentions_kept c.args.self.now.watched.entries c.propagate.new.self.entries v e.propagates.kept m)
    ]
