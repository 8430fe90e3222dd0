-- A pattern is a fold where what its edits make of each body is one.
use Rattle.std.proofs.Common.{◌≡◌, ℕ, List, Some, slice_get, subst}
use Rattle.wiring.proofs.Options.{option_map_some}
use Rattle.hw_model.specs.Design.{Module, Design}
use Rattle.acceptance_laws.specs.Keeps.{IsFit}
use Rattle.fold_laws.specs.Edits.{Edit, edited_by, FoldPattern, fold_by}
use Rattle.fold_laws.specs.Fold.{IsFold, FoldLaw}

-- what the edits of a pattern make of a body of a fit design is a fold of it
abbrev pub PatternLaw : FoldPattern → Type 0
PatternLaw pattern = (d : Design) (k : ℕ) (md : Module) (i : ℕ) (es : List Edit) → IsFit d → slice_get d k ≡ Some md → pattern md.body i ≡ Some es
    → IsFold d k md (edited_by es md.body)

pub pattern_is_fold : (pattern : FoldPattern) → PatternLaw pattern → FoldLaw (fold_by pattern)
pattern_is_fold pattern law d k md i os fit at is =
    let edits = option_map_some (λ (es : List Edit). edited_by es md.body) (pattern md.body i) is in
    subst (IsFold d k md) edits.2 (law d k md i edits.0 fit at edits.1)
