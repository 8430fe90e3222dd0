-- The first of patterns that matches makes folds where each of them does.
use Rattle.std.proofs.Common.{◌≡◌, List, [], ◌∷◌, Option, Some, None, refl, ap, ◌∙◌, option_map}
use Rattle.fold_laws.specs.Edits.{Edit, edited_by, FoldPattern, fold_by}
use Rattle.fold_laws.specs.Fold.{IsFold, FoldLaw}
use Rattle.fold_laws.specs.Table.{or_edits, first_pattern, AllFold}

pub first_pattern_folds : (rs : List FoldPattern) → AllFold rs → FoldLaw (fold_by (first_pattern rs))
first_pattern_folds [] all d k md i os fit at is = cc
first_pattern_folds (pattern ∷ rs) all d k md i os fit at is = go (pattern md.body i) refl is (first_pattern_folds rs all.1 d k md i os fit at)
  where
    go : (x : Option (List Edit)) → pattern md.body i ≡ x → option_map (λ (es : List Edit). edited_by es md.body) (or_edits x (first_pattern rs md.body i)) ≡ Some os
        → (option_map (λ (es : List Edit). edited_by es md.body) (first_pattern rs md.body i) ≡ Some os → IsFold d k md os) → IsFold d k md os
    go (Some es) matches made later = all.0 d k md i os fit at (ap (option_map (λ (qs : List Edit). edited_by qs md.body)) matches ∙ made)
    go None matches made later = later made
