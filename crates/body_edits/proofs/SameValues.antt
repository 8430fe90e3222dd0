-- Values of a body that are one by ids are one by positions.
use Rattle.std.proofs.Common.{◌≡◌, ℕ, ◌≤◌, ◌<◌, false, cond, List, [], ◌∷◌, map, length, get_or, Some, None, ap, sym, ◌∙◌, arith}
use Rattle.std.specs.Prelude.{All}
use Rattle.ir_store.specs.declared.body.Body.{Body}
use Rattle.ir_store.specs.declared.operation.Value.{Value}
use Rattle.ir_store.specs.Bodies.{ids_of}
use Rattle.ir_store.specs.BodyOps.{same_value}
use Rattle.ir_store.specs.Live.{IsLive}
use Rattle.ir_store.specs.Positions.{same_ref}
use Rattle.ir_store.proofs.Numbering.{same-ref_by}
use Rattle.fold_laws.specs.Numbers.{number_where}
use Rattle.fold_laws.specs.Standing.{when, of_three_operands}
use Rattle.body_edits.specs.Views.{value_ref}

-- two operands of a body, and the second and third of three
pub same_two : (b : Body) (x y : Value) → All (IsLive (ids_of b)) (x ∷ y ∷ []) → same_value x y ≡ same_ref (value_ref b x) (value_ref b y)
unfolding value_ref
same_two b x y live = same-ref_by (ids_of b) x y (live 0 x (omega arith)) (live 1 x (omega arith))

pub same_of_three : (b : Body) (c x y : Value) → All (IsLive (ids_of b)) (c ∷ x ∷ y ∷ []) → same_value x y ≡ same_ref (value_ref b x) (value_ref b y)
unfolding value_ref
same_of_three b c x y live = same-ref_by (ids_of b) x y (live 1 x (omega arith)) (live 2 x (omega arith))

-- nothing is chosen where they are not one
pub others_of_three : (b : Body) (vs : List Value) (d e : Value) → All (IsLive (ids_of b)) vs → 3 ≤ length vs → length vs < 4 → same_value (get_or vs 1 d) (get_or vs 2 e) ≡ false
    → None ≡ of_three_operands (λ c x y. when (same_ref x y) (Some x)) (map (value_ref b) vs)
others_of_three b (c ∷ x ∷ y ∷ []) d e live least most is = ap (λ t. when t (Some (value_ref b x))) (sym is ∙ same_of_three b c x y live)
others_of_three b [] d e live least most is = absurd (omega (arith, least))
others_of_three b (c ∷ []) d e live least most is = absurd (omega (arith, least))
others_of_three b (c ∷ x ∷ []) d e live least most is = absurd (omega (arith, least))
others_of_three b (c ∷ x ∷ y ∷ z ∷ vs) d e live least most is = absurd (omega (arith, most))

pub two_others : (b : Body) (vs : List Value) (d e : Value) (n : ℕ) → All (IsLive (ids_of b)) vs → 2 ≤ length vs → length vs < 3 → same_value (get_or vs 0 d) (get_or vs 1 e) ≡ false
    → None ≡ number_where same_ref n (map (value_ref b) vs)
two_others b (x ∷ y ∷ []) d e n live least most is = ap (λ t. cond t (Some n) None) (sym is ∙ same_two b x y live)
two_others b [] d e n live least most is = absurd (omega (arith, least))
two_others b (x ∷ []) d e n live least most is = absurd (omega (arith, least))
two_others b (x ∷ y ∷ z ∷ vs) d e n live least most is = absurd (omega (arith, most))
