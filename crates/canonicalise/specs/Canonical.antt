-- The canonical form of a body (MLIR documentation, "Operation canonicalization").
use Rattle.std.specs.Prelude.{◌≡◌, ◌<◌, ℕ, List, length, Some, None}
use Rattle.hw_model.specs.Design.{Op}
use Rattle.fold_laws.specs.Edits.{Edit, FoldPattern, edited_by}
use Rattle.fold_laws.specs.Table.{patterns, first_pattern}
use Rattle.pass_laws.specs.Steps.{StepsBy}
use Rattle.canonicalise.specs.Sweeps.{IsSweptOut}

-- the first pattern that matches
abbrev pub table : FoldPattern
table = first_pattern patterns

-- the second operations are the canonical form of the first: what sweeps with the table of folds make of them
abbrev pub IsCanonicalOf : List Op → List Op → Type 0
IsCanonicalOf before after = IsSweptOut table before after

-- no pattern matches at an operation
abbrev pub HasNoFold : List Op → Type 0
HasNoFold os = (i : ℕ) → i < length os → table os i ≡ None

-- one fold leads from operations to others
abbrev pub IsFoldOf : FoldPattern → List Op → List Op → Type 0
IsFoldOf pattern before after = (i : ℕ) × (es : List Edit) × (pattern before i ≡ Some es) × (after ≡ edited_by es before)

-- so many do, one after another
abbrev pub LeadsBy : FoldPattern → ℕ → List Op → List Op → Type 0
LeadsBy pattern n before after = StepsBy (IsFoldOf pattern) n before after

pub record Leads (pattern : FoldPattern) (before after : List Op) : Type 0 where
  pub folds : ℕ
  pub leads : LeadsBy pattern folds before after
