-- What the elimination of common subexpressions makes of a body (MLIR documentation, "Passes": `cse`).
use Rattle.std.specs.Prelude.{◌⊎◌, ℕ, List}
use Rattle.hw_model.specs.Design.{Op}
use Rattle.pass_laws.specs.Steps.{StepsBy}
use Rattle.cse_pass.specs.Merges.{IsMerge, IsMerged}
use Rattle.cse_pass.specs.Trims.{IsTrim, IsTrimmed}

-- first equal operations are merged, then those without uses go
pub record IsCseOf (before after : List Op) : Type 0 where
  pub between : List Op
  pub merged : IsMerged before between
  pub trimmed : IsTrimmed between after

-- a single change: an operation that is equal to an earlier one goes, or one without uses
abbrev pub IsChange : List Op → List Op → Type 0
IsChange before after = IsMerge before after ⊎ IsTrim before after

-- so many single changes, one after another, lead from operations to others
abbrev pub ChangeBy : ℕ → List Op → List Op → Type 0
ChangeBy n before after = StepsBy IsChange n before after

pub record Changes (before after : List Op) : Type 0 where
  pub count : ℕ
  pub leads : ChangeBy count before after
