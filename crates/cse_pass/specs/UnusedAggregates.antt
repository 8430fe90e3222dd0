-- Pure operations of aggregate types without uses go (MLIR documentation, "Pattern Rewriting": what is trivially dead is erased).
use Rattle.std.specs.Prelude.{◌≡◌, ℕ, Bool, true, false, not, List, [], ◌∷◌, Option, Some, None, slice_get}
use Rattle.hw_model.specs.Design.{Op, OpResult}
use Rattle.aggregate_laws.specs.Aggregates.{is_scalar}
use Rattle.fold_laws.specs.Unused.{fold_unused}
use Rattle.pass_laws.specs.Steps.{StepsBy}
use Rattle.cse_pass.specs.Trims.{IsTrim}

-- whether the first of these results has parts
abbrev pub has_parts : List OpResult → Bool
has_parts [] = false
has_parts (x ∷ xs) = not (is_scalar x.type)

-- whether an operation, if there is one, makes an aggregate
abbrev pub makes_aggregate : Option Op → Bool
makes_aggregate None = false
makes_aggregate (Some o) = has_parts o.results

-- a single change: a pure operation without uses goes that makes an aggregate
abbrev pub IsAggregateTrim : List Op → List Op → Type 0
IsAggregateTrim before after = (trim : IsTrim before after) × (makes_aggregate (slice_get before trim.0) ≡ true)

-- so many of them lead from operations to others
pub record AggregateTrims (before after : List Op) : Type 0 where
  pub count : ℕ
  pub leads : StepsBy IsAggregateTrim count before after

-- each pure operation that makes an aggregate has a use
abbrev pub HasNoUnusedAggregate : List Op → Type 0
HasNoUnusedAggregate os = (i : ℕ) → makes_aggregate (slice_get os i) ≡ true → fold_unused os i ≡ None

-- single changes lead from the first operations to the second ones, where no further one is possible
pub record IsWithoutUnusedAggregates (before after : List Op) : Type 0 where
  pub trims : AggregateTrims before after
  pub none_left : HasNoUnusedAggregate after
