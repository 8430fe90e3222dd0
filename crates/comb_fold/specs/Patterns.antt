-- What patterns of the table of folds make of a body at the operation of a position (MLIR documentation, "Operation
-- canonicalization").
use Rattle.std.specs.Prelude.{◌≡◌, ℕ, Some, slice_get}
use Rattle.hw_model.specs.Design.{Ref, Op, Module, Design}
use Rattle.acceptance_laws.specs.Keeps.{IsFit}
use Rattle.fold_laws.specs.Standing.{Stand}
use Rattle.body_edits.specs.Replaceable.{MayStand}

-- in each module of a fit design the value may stand for the result
pub record StandsInFit (stand : Stand) : Type 0 where
  pub may : (d : Design) (k : ℕ) (md : Module) (i : ℕ) (o : Op) (x : Ref) → IsFit d → slice_get d k ≡ Some md → slice_get md.body i ≡ Some o
      → stand md.body o.kind o.types o.operands ≡ Some x → MayStand md.body i x
