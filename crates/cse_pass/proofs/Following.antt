-- What designs keep to whose operations the single changes of the elimination of common subexpressions lead.
use Rattle.std.proofs.Common.{◌≡◌, ℕ, List, Some, slice_get, sym, ap, subst, ◌∙◌, inl, inr, option_map}
use Rattle.hw_model.specs.Design.{Op, Module, Design}
use Rattle.edit_laws.specs.Laws.{with_body}
use Rattle.acceptance_laws.specs.Keeps.{IsFit}
use Rattle.pass_laws.proofs.Steps.{Keeps, steps_keep}
use Rattle.fold_laws.specs.Edits.{Edit, edited_by}
use Rattle.fold_laws.specs.Fold.{IsFold}
use Rattle.fold_laws.proofs.Unused.{unused_is_fold}
use Rattle.ir_store.specs.declared.body.Body.{Body}
use Rattle.body_edits.specs.FitBodies.{IsOfFit}
use Rattle.body_edits.specs.Views.{body_ops}
use Rattle.body_edits.proofs.FitKept.{of_fit_kept}
use Rattle.cse_pass.specs.Cse.{IsChange, Changes}
use Rattle.cse_pass.proofs.MergedFits.{merge_steady, merge_lighter}
pub use Rattle.cse_pass.proofs.EqualParts.{equal_ops_parts, equal_ops_from_parts}
pub use Rattle.cse_pass.proofs.Leading.{no_change, changes_then, merges_change, trim_is_change}

-- ---- one change

change_follows : (d : Design) (k : ℕ) (m : Module) (os : List Op) → IsFit d → slice_get d k ≡ Some m → IsChange m.body os → Keeps d (with_body d k m os)
change_follows d k m os fit at (inl step) =
    subst (λ z. Keeps d (with_body d k m z)) (sym step.is)
    (record { steady = merge_steady d fit k m at step.at step.earlier step.found; lighter = merge_lighter d k m at step.at step.earlier step.found })
change_follows d k m os fit at (inr (i, is, same)) =
    let fold : IsFold d k m os = unused_is_fold d k m i os fit at (ap (option_map (λ (es : List Edit). edited_by es m.body)) is ∙ ap Some (sym same)) in
    record { steady = fold.steady; lighter = fold.lighter }

-- ---- changes

pub changes_follow : (d : Design) (k : ℕ) (m : Module) (os : List Op) → IsFit d → slice_get d k ≡ Some m → Changes m.body os → Keeps d (with_body d k m os)
changes_follow d k m os fit at changes = steps_keep IsChange change_follows changes.count d k m os fit at changes.leads

-- ---- bodies in code

-- a body to whose operations changes lead from those of one of a fit design is of one too
pub fit_after : (before after : Body) → IsOfFit before → Changes (body_ops before) (body_ops after) → IsOfFit after
fit_after before after of changes =
    of_fit_kept before after of (changes_follow of.design of.number of.owner (body_ops after) of.fit of.there (subst (λ z. Changes z (body_ops after)) (sym of.is_body) changes))
