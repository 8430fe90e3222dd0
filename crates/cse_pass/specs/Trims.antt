-- Pure operations without uses go, the last ones first (MLIR documentation, "Passes": `cse`).
use Rattle.std.specs.Prelude.{◌≡◌, ℕ, zero, suc, cond, List, [], ◌∷◌, length, Some, None, is_some}
use Rattle.hw_model.specs.Design.{Op}
use Rattle.hw_model.specs.Design.Ref.{undefined}
use Rattle.edit_laws.specs.Laws.{erase_op}
use Rattle.fold_laws.specs.Edits.Edit.{erased}
use Rattle.fold_laws.specs.Unused.{fold_unused}
use Rattle.pass_laws.specs.Steps.{StepsBy}

-- a single trim: a pure operation without uses goes
abbrev pub IsTrim : List Op → List Op → Type 0
IsTrim before after = (i : ℕ) × (fold_unused before i ≡ Some (erased i undefined ∷ [])) × (after ≡ erase_op i undefined before)

-- so many trims, one after another, lead from operations to others
abbrev pub TrimsBy : ℕ → List Op → List Op → Type 0
TrimsBy n before after = StepsBy IsTrim n before after

pub record TrimsInto (before after : List Op) : Type 0 where
  pub count : ℕ
  pub leads : TrimsBy count before after

-- the operation at a position goes where it is pure and nothing names it
abbrev pub trim_at : ℕ → List Op → List Op
trim_at i os = cond (is_some (fold_unused os i)) (erase_op i undefined os) os

-- a sweep over the positions below one, the last one first
abbrev pub trim_sweep : ℕ → List Op → List Op
trim_sweep zero os = os
trim_sweep (suc n) os = trim_sweep n (trim_at n os)

-- the operations after so many sweeps over the whole body, in which unused ones go
abbrev pub trims : ℕ → List Op → List Op
trims zero os = os
trims (suc n) os = trims n (trim_sweep (length os) os)

-- each pure operation has a use
abbrev pub HasNoUnused : List Op → Type 0
HasNoUnused os = (i : ℕ) → fold_unused os i ≡ None

-- sweeps make the second body of the first, in which each pure operation has a use
pub record IsTrimmed (before after : List Op) : Type 0 where
  pub sweeps : ℕ
  pub is : after ≡ trims sweeps before
  pub none_left : HasNoUnused after
