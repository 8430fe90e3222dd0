-- Single changes of operations, one after another (MLIR documentation, "Pattern Rewriting").
use Rattle.std.specs.Prelude.{◌≡◌, ℕ, zero, suc, List}
use Rattle.hw_model.specs.Design.{Op}

-- so many single changes lead from operations to others
abbrev pub StepsBy : (List Op → List Op → Type 0) → ℕ → List Op → List Op → Type 0
StepsBy Step zero before after = after ≡ before
StepsBy Step (suc n) before after = (between : List Op) × StepsBy Step n before between × Step between after
