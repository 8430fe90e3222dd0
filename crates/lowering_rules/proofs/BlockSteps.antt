-- The table of what operations become, one operation after another.
use Rattle.std.proofs.Common.{◌≡◌, ℕ, ◌+◌, ◌≤◌, List, [], ◌∷◌, ◌++◌, length, drop, slice_get, Some, refl, sym, ap, ap₂, ◌∙◌}
use Rattle.std.proofs.lemmas.List.{append-nil, drop_all}
use Rattle.hw_model.specs.Kinds.{Kind}
use Rattle.hw_model.specs.Design.{Port, Op}
use Rattle.aggregate_laws.specs.Rules.{Rules}
use Rattle.aggregate_laws.specs.Aggregates.{aggregate_rules, rule_of}
use Rattle.lowering_rules.specs.declared.leaf_table.BlockTable.{BlockTable}
use Rattle.lowering_rules.specs.LeafTables.{AddsBlock, all_refs_in, result_table, body_table, starts_from, ends_from}
use Rattle.lowering_rules.proofs.TableRules.{results_more, starts_more, ends_more}

-- the table has what the operations before one become, which ends at a position
pub record IsBuilt (rules : Rules) (os : List Op) (j start : ℕ) (t : BlockTable) : Type 0 where
  pub results : all_refs_in t.results.items ++ body_table rules start (drop j os) ≡ body_table rules 0 os
  pub starts : t.starts.items ++ starts_from rules start (drop j os) ≡ starts_from rules 0 os
  pub ends : t.ends.items ++ ends_from rules start (drop j os) ≡ ends_from rules 0 os

pub built_more : (split : List Port → List Port) (named : Op → Kind) (os : List Op) (j start end : ℕ) (o : Op) (t u : BlockTable) → slice_get os j ≡ Some o → AddsBlock named o start t u end
    → IsBuilt (aggregate_rules split named) os j start t → IsBuilt (aggregate_rules split named) os (j + 1) end u
built_more split named os j start end o t u at added built =
    let rules = aggregate_rules split named in
    let count = (rule_of named o o.kind).count in
    let rest = drop (j + 1) os in
    record {
      results = ap₂ (λ xs n. xs ++ body_table rules n rest) added.results added.end_is
          ∙ results_more rules start count os j o at refl (all_refs_in t.results.items) (result_table (rule_of named o o.kind) start o 0 o.results) (body_table rules 0 os) refl built.results;
      starts = ap₂ (λ xs n. xs ++ starts_from rules n rest) added.starts added.end_is
          ∙ starts_more rules start count os j o at refl t.starts.items (starts_from rules 0 os) built.starts;
      ends = ap₂ (λ xs n. xs ++ ends_from rules n rest) (added.ends ∙ ap (λ n. t.ends.items ++ n ∷ []) added.end_is) added.end_is
          ∙ ends_more rules start count os j o at refl t.ends.items (ends_from rules 0 os) built.ends;
    }

-- what is left of a list at its end
pub built_ends : {A : Type 0} (f : List Op → List A) (os : List Op) (j : ℕ) (now whole : List A) → f [] ≡ [] → length os ≤ j → now ++ f (drop j os) ≡ whole → now ≡ whole
built_ends f os j now whole none past is = sym (append-nil now) ∙ ap (λ xs. now ++ xs) (sym none) ∙ ap (λ l. now ++ f l) (sym (drop_all j os past)) ∙ is
