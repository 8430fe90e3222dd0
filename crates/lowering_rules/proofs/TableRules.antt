-- What the results of an operation add to the tables of leaves.
use Rattle.std.proofs.Common.{◌≡◌, ℕ, zero, suc, ◌+◌, Bool, true, false, cond, List, [], ◌∷◌, ◌++◌, length, map, take, drop, flat_map, slice_get, Some, refl, sym, ap, ap₂, ◌∙◌, arith, length-append, append_assoc}
use Rattle.wiring.proofs.Lists.{drop_some}
use Rattle.hw_model.specs.Types.{leaves}
use Rattle.hw_model.specs.Kinds.{Kind}
use Rattle.hw_model.specs.Design.{Ref, Op, OpResult}
use Rattle.hw_model.specs.Design.Ref.{result}
use Rattle.aggregate_laws.specs.Leaves.{in_row}
use Rattle.aggregate_laws.specs.Rules.{Rule, Rules, count_by, stays_one, leaf_ref}
use Rattle.aggregate_laws.specs.OperationRules.{all_leaves}
use Rattle.aggregate_laws.specs.Aggregates.{rule_of}
use Rattle.aggregate_laws.proofs.Lists.{map-in_row}
use Rattle.lowering_rules.specs.LeafTables.{result_table, body_table, starts_from, ends_from, offset_ref, divided}
use Rattle.lowering_rules.proofs.Shaping.{rule_same}
use Rattle.lowering_rules.proofs.SameRules.{same_shape, position_of_one}

-- ---- parts of a rule

rule_first : {A : Type 0} (f : ℕ → A) (s n m total : ℕ) → total ≡ n + m → take n (in_row f s total) ≡ in_row f s n
rule_first f s zero m total e = refl
rule_first f s (suc n) m zero e = absurd (omega arith)
rule_first f s (suc n) m (suc total) e = ap (λ xs. f s ∷ xs) (rule_first f (suc s) n m total (omega arith))

rule_rest : {A : Type 0} (f : ℕ → A) (s n m total : ℕ) → total ≡ n + m → drop n (in_row f s total) ≡ in_row f (s + n) m
rule_rest f s zero m total e = let same : total ≡ m = omega arith in let at : s ≡ s + 0 = omega arith in ap₂ (in_row f) at same
rule_rest f s (suc n) m zero e = absurd (omega arith)
rule_rest f s (suc n) m (suc total) e = let at : suc s + n ≡ s + suc n = omega arith in rule_rest f (suc s) n m total (omega arith) ∙ ap (λ k. in_row f k m) at

-- ---- one operation

divided_rule : (rule : Rule) (start : ℕ) (o : Op) (i : ℕ) (xs : List OpResult) (n : ℕ) → n ≡ length (flat_map leaves (map (λ (x : OpResult). x.type) xs))
    → divided xs (in_row (leaf_ref rule start o) i n) ≡ result_table rule start o i xs
divided_rule rule start o i [] n e = refl
divided_rule rule start o i (x ∷ xs) n e =
    let own = length (leaves x.type) in
    let more = length (flat_map leaves (map (λ (y : OpResult). y.type) xs)) in
    let both : n ≡ own + more = e ∙ length-append (leaves x.type) (flat_map leaves (map (λ (y : OpResult). y.type) xs)) in
    ap₂ (λ rs rest. rs ∷ rest) (rule_first (leaf_ref rule start o) i own more n both)
    (ap (divided xs) (rule_rest (leaf_ref rule start o) i own more n both) ∙ divided_rule rule start o (i + own) xs more refl)

-- by the positions of leaves, whatever the operands
pub op_table : (named : Op → Kind) (o : Op) (rs : List Ref) (start : ℕ) (offsets : List ℕ) → offsets ≡ in_row (rule_of named o o.kind).position 0 (length (all_leaves o))
    → divided o.results (map (offset_ref (stays_one o) start) offsets) ≡ result_table (rule_of named (record o { operands = rs }) o.kind) start (record o { operands = rs }) 0 o.results
op_table named o rs start offsets is =
    let n = length (all_leaves o) in
    let rule = rule_of named o o.kind in
    let other = rule_of named (record o { operands = rs }) o.kind in
    ap (λ is. divided o.results (map (offset_ref (stays_one o) start) is)) is
    ∙ ap (divided o.results)
    (map-in_row (offset_ref (stays_one o) start) rule.position 0 n
    ∙ rule_same (λ i. offset_ref (stays_one o) start (rule.position i)) (leaf_ref other start (record o { operands = rs })) (λ i. one (stays_one o) refl i) 0 n)
    ∙ divided_rule other start (record o { operands = rs }) 0 o.results n refl
  where
    one : (b : Bool) → stays_one o ≡ b → (i : ℕ)
        → cond b (result start ((rule_of named o o.kind).position i)) (result (start + (rule_of named o o.kind).position i) 0)
        ≡ cond b (result start i) (result (start + (rule_of named (record o { operands = rs }) o.kind).position i) 0)
    one true h i = ap (result start) (position_of_one named o h i)
    one false h i = ap (λ p. result (start + p) 0) (sym ((same_shape named o rs o.kind).offset i))

-- ---- one operation more

module _ (rules : Rules) (start count : ℕ) (os : List Op) (j : ℕ) (o : Op) (at : slice_get os j ≡ Some o) (counted : count ≡ count_by rules o) where
  next : drop j os ≡ o ∷ drop (j + 1) os
  next = let e : suc j ≡ j + 1 = omega arith in drop_some os j o at ∙ ap (λ k. o ∷ drop k os) e

  pub results_more : (now : List (List (List Ref))) (own : List (List Ref)) (whole : List (List (List Ref))) → own ≡ result_table (rules.rule o) start o 0 o.results
      → now ++ body_table rules start (drop j os) ≡ whole → (now ++ own ∷ []) ++ body_table rules (start + count) (drop (j + 1) os) ≡ whole
  results_more now own whole is before =
      append_assoc now (own ∷ []) (body_table rules (start + count) (drop (j + 1) os))
      ∙ ap₂ (λ x n. now ++ (x ∷ body_table rules (start + n) (drop (j + 1) os))) is counted
      ∙ ap (λ l. now ++ body_table rules start l) (sym next)
      ∙ before

  pub starts_more : (now whole : List ℕ) → now ++ starts_from rules start (drop j os) ≡ whole → (now ++ start ∷ []) ++ starts_from rules (start + count) (drop (j + 1) os) ≡ whole
  starts_more now whole before =
      append_assoc now (start ∷ []) (starts_from rules (start + count) (drop (j + 1) os))
      ∙ ap (λ n. now ++ (start ∷ starts_from rules (start + n) (drop (j + 1) os))) counted
      ∙ ap (λ l. now ++ starts_from rules start l) (sym next)
      ∙ before

  pub ends_more : (now whole : List ℕ) → now ++ ends_from rules start (drop j os) ≡ whole → (now ++ (start + count) ∷ []) ++ ends_from rules (start + count) (drop (j + 1) os) ≡ whole
  ends_more now whole before =
      append_assoc now ((start + count) ∷ []) (ends_from rules (start + count) (drop (j + 1) os))
      ∙ ap (λ n. now ++ ((start + n) ∷ ends_from rules (start + n) (drop (j + 1) os))) counted
      ∙ ap (λ l. now ++ ends_from rules start l) (sym next)
      ∙ before
