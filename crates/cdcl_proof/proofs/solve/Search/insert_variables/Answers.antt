use Rattle.std.proofs.Common.{ℕ, true, ◌≡◌, ◌<◌, ◌≤◌, ◌+◌, ◌⊎◌, inl, inr, length, take, ap, subst, sym, ◌∙◌, refl, arith}
use Rattle.std.proofs.lemmas.Bool.{cases_eq}
use Rattle.clause_learning.specs.declared.trail.Entry.{Entry}
use Rattle.resolution_proof.specs.Literal.{mentions}
use Rattle.cdcl_proof.specs.Order.{Waits}
use Rattle.clause_learning.specs.Trail.{Path, entry_at, literals}
use Rattle.clause_learning.specs.Watching.{Watching}
use Rattle.clause_learning.proofs.Entries.{entry_of_mentions}
use Rattle.clause_learning.proofs.Adding.{before_or_from, mentions_before}
use Rattle.cdcl_proof.proofs.solve.Search.insert_variables.Goals as goal

pub loop-index-init : goal.loop-index-init
loop-index-init c = record {
  searching = c.requires.searching;
  formula = refl;
  chains = refl;
  watched = refl;
  waiting = λ v low high. elim (c.requires.waiting v low high) as (λ _. Waits c.args.self.now.order.heap.items v
      ⊎ ((k : ℕ) × (k < length c.args.self.now.watched.entries) × ((k < c.args.position) ⊎ (c.args.position ≤ k)) × ((entry_at c.args.self.now.watched.entries k).literal.variable ≡ v))) [
        | inl w ↦ inl w
        | inr m ↦ let r = entry_of_mentions c.args.self.now.watched.entries v m in inr (r.0, r.1, before_or_from r.0 c.args.position, r.2)
      ];
}

pub loop-index-preserved : goal.loop-index-preserved
loop-index-preserved c =
    let i = c.loop-index.invariant in
    let e = c.in_ok-insert_variable.ensures in
    let entry : c.entry-entry.result ≡ entry_at c.loop-index.self.watched.entries c.loop-index.index = c.entry-entry.ensures.entry ∙ ap (λ (p : Path). entry_at p.entries c.loop-index.index) c.trail-in-loop-index.ensures in
    record {
      searching = e.searching;
      formula = e.formula ∙ i.formula;
      chains = e.chains ∙ i.chains;
      watched = e.watched ∙ i.watched;
      waiting = λ v low high. elim (i.waiting v low (subst (λ (w : Watching). v ≤ w.variables) e.watched high)) as
          (λ _. Waits c.insert_variable.new.self.order.heap.items v ⊎ ((k : ℕ) × (k < length c.insert_variable.new.self.watched.entries) × ((k < c.args.position) ⊎ (c.loop-index.index + 1 ≤ k))
          × ((entry_at c.insert_variable.new.self.watched.entries k).literal.variable ≡ v))) [
            | inl w ↦ inl (e.kept v w)
            | inr k ↦ elim (cases_eq k.0 c.loop-index.index) as (λ _. Waits c.insert_variable.new.self.order.heap.items v
                ⊎ ((j : ℕ) × (j < length c.insert_variable.new.self.watched.entries) × ((j < c.args.position) ⊎ (c.loop-index.index + 1 ≤ j))
                × ((entry_at c.insert_variable.new.self.watched.entries j).literal.variable ≡ v))) [
                  | inl here ↦ inl (subst (λ (x : ℕ). Waits c.insert_variable.new.self.order.heap.items x)
                      (ap (λ (x : Entry). x.literal.variable) entry ∙ ap (λ (n : ℕ). (entry_at c.loop-index.self.watched.entries n).literal.variable) (sym here) ∙ k.3) e.waits)
                  | inr other ↦ inr (subst (λ (w : Watching). (j : ℕ) × (j < length w.entries) × ((j < c.args.position) ⊎ (c.loop-index.index + 1 ≤ j)) × ((entry_at w.entries j).literal.variable ≡ v))
                      (sym e.watched) (k.0, k.1, elim k.2 as (λ _. (k.0 < c.args.position) ⊎ (c.loop-index.index + 1 ≤ k.0)) [ inl a ↦ inl a | inr b ↦ inr (omega (arith, b, other)) ], k.3))
                ]
          ];
    }

pub returns-clause-waiting : goal.returns-clause-waiting
returns-clause-waiting c v low high =
    let i = c.loop-index.invariant in
    let end = ap (λ (w : Watching). length w.entries) i.watched in
    let len = c.len-index-end.ensures.len in
    let all = ap (λ (p : Path). length p.entries) c.trail.ensures in
    elim (i.waiting v low high) as (λ _. Waits c.loop-index.self.order.heap.items v ⊎ (mentions (literals (take c.args.position c.loop-index.self.watched.entries)) v ≡ true)) [
      | inl w ↦ inl w
      | inr k ↦ inr (mentions_before c.loop-index.self.watched.entries c.args.position k.0 v (elim k.2 as
          (λ _. k.0 < c.args.position) [ inl a ↦ a | inr b ↦ let l = k.1 in absurd (omega (arith, b, l, end, len, all, c.loop-index-test.false)) ]) k.1 k.3)
    ]
