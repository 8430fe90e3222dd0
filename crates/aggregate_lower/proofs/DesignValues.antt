-- Whether values have aggregate types, module by module and operation by operation.
use Rattle.std.proofs.Common.{◌≡◌, ℕ, zero, suc, ◌+◌, Bool, true, false, cond, List, [], ◌∷◌, map, drop, slice_get, Some, sym, ap, ◌∙◌, arith}
use Rattle.hw_model.specs.Design.{Op}
use Rattle.ir_store.specs.BodyOps.{BodyOp}
use Rattle.ir_store.specs.Designs.{StoredModule, numbered_module}
use Rattle.aggregate_laws.specs.Scalars.{has_aggregate_value, has_aggregate_type, has_aggregate_result, has_aggregates}

-- ---- modules

module_here : (ms : List StoredModule) (n : ℕ) (m : StoredModule) → Some m ≡ slice_get ms n → drop n (map numbered_module ms) ≡ numbered_module m ∷ drop (suc n) (map numbered_module ms)
module_here [] n m at = cc
module_here (x ∷ ms) zero m at = let same : x ≡ m = cc in ap (λ y. numbered_module y ∷ map numbered_module ms) same
module_here (x ∷ ms) (suc n) m at = module_here ms n m at

pub module_with : (ms : List StoredModule) (n : ℕ) (m : StoredModule) (b whole : Bool) → Some m ≡ slice_get ms n → b ≡ has_aggregate_value (numbered_module m) → b ≡ true
    → has_aggregates (drop n (map numbered_module ms)) ≡ whole → true ≡ whole
module_with ms n m b whole at value is left =
    ap (λ x. cond x true (has_aggregates (drop (suc n) (map numbered_module ms)))) (sym (sym value ∙ is))
    ∙ sym (ap has_aggregates (module_here ms n m at)) ∙ left

pub module_without : (ms : List StoredModule) (n : ℕ) (m : StoredModule) (b whole : Bool) → Some m ≡ slice_get ms n → b ≡ has_aggregate_value (numbered_module m) → b ≡ false
    → has_aggregates (drop n (map numbered_module ms)) ≡ whole → has_aggregates (drop (n + 1) (map numbered_module ms)) ≡ whole
module_without ms n m b whole at value is left =
    let next : n + 1 ≡ suc n = omega arith in
    ap (λ k. has_aggregates (drop k (map numbered_module ms))) next
    ∙ ap (λ x. cond x true (has_aggregates (drop (suc n) (map numbered_module ms)))) (sym (sym value ∙ is))
    ∙ sym (ap has_aggregates (module_here ms n m at)) ∙ left

-- ---- operations

module _ (seen : BodyOp → Op) (o : BodyOp) (now rest : List BodyOp) (b whole : Bool) (here : now ≡ o ∷ rest) (value : b ≡ has_aggregate_type (seen o).results) where
  pub op_with : b ≡ true → has_aggregate_result (map seen now) ≡ whole → true ≡ whole
  op_with is left =
      ap (λ x. cond x true (has_aggregate_result (map seen rest))) (sym (sym value ∙ is))
      ∙ sym (ap (λ os. has_aggregate_result (map seen os)) here) ∙ left

  pub op_without : b ≡ false → has_aggregate_result (map seen now) ≡ whole → has_aggregate_result (map seen rest) ≡ whole
  op_without is left =
      ap (λ x. cond x true (has_aggregate_result (map seen rest))) (sym (sym value ∙ is))
      ∙ sym (ap (λ os. has_aggregate_result (map seen os)) here) ∙ left
