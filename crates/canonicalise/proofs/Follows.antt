-- What designs keep to whose operations single folds lead.
use Rattle.std.proofs.Common.{◌≡◌, ℕ, List, Some, slice_get, sym, ap, subst, ◌∙◌, inl, inr, arith, option_map}
use Rattle.hw_model.specs.Design.{Op, Module, Design}
use Rattle.edit_laws.specs.Laws.{with_body}
use Rattle.acceptance_laws.specs.Keeps.{IsFit}
use Rattle.pass_laws.proofs.Steps.{Keeps, steps_keep}
use Rattle.fold_laws.specs.Edits.{Edit, edited_by}
use Rattle.fold_laws.specs.Fold.{IsSmaller, IsFold}
use Rattle.fold_laws.specs.Table.{patterns}
use Rattle.fold_laws.proofs.AllPatterns.{all_patterns_fold}
use Rattle.fold_laws.proofs.Table.{first_pattern_folds}
use Rattle.ir_store.specs.declared.body.Body.{Body}
use Rattle.body_edits.specs.FitBodies.{IsOfFit}
use Rattle.body_edits.specs.Views.{body_ops}
use Rattle.body_edits.proofs.FitKept.{of_fit_kept}
use Rattle.canonicalise.specs.Canonical.{table, IsFoldOf, Leads}

-- one fold of the operations of a module of a fit design
pub folds_once : (d : Design) (k : ℕ) (m : Module) (os : List Op) → IsFit d → slice_get d k ≡ Some m → IsFoldOf table m.body os → IsFold d k m os
folds_once d k m os fit at (i, es, matches, is) =
    first_pattern_folds patterns all_patterns_fold d k m i os fit at (ap (option_map (λ (z : List Edit). edited_by z m.body)) matches ∙ ap Some (sym is))

fold_keeps : (d : Design) (k : ℕ) (m : Module) (os : List Op) → IsFit d → slice_get d k ≡ Some m → IsFoldOf table m.body os → Keeps d (with_body d k m os)
fold_keeps d k m os fit at fold = let once : IsFold d k m os = folds_once d k m os fit at fold in record { steady = once.steady; lighter = once.lighter }

-- so many of them
pub followed : (d : Design) (k : ℕ) (m : Module) (os : List Op) → IsFit d → slice_get d k ≡ Some m → Leads table m.body os → Keeps d (with_body d k m os)
followed d k m os fit at leads = steps_keep (IsFoldOf table) fold_keeps leads.folds d k m os fit at leads.leads

-- ---- bodies in code

-- a body to whose operations folds lead from those of one of a fit design is of one too
pub fit_after : (before after : Body) → IsOfFit before → Leads table (body_ops before) (body_ops after) → IsOfFit after
fit_after before after of leads =
    of_fit_kept before after of (followed of.design of.number of.owner (body_ops after) of.fit of.there (subst (λ z. Leads table z (body_ops after)) (sym of.is_body) leads))

-- one fold makes it smaller
pub fold_is_smaller : (before : Body) (os : List Op) → IsOfFit before → IsFoldOf table (body_ops before) os → IsSmaller os (body_ops before)
fold_is_smaller before os of fold =
    subst (IsSmaller os) of.is_body (folds_once of.design of.number of.owner os of.fit of.there (subst (λ z. IsFoldOf table z os) (sym of.is_body) fold)).smaller

pub smaller_then : (x y z : List Op) → IsSmaller x y → IsSmaller y z → IsSmaller x z
smaller_then x y z (inl one) (inl two) = inl (omega (arith, one, two))
smaller_then x y z (inl one) (inr (same, fewer)) = inl (omega (arith, one, same))
smaller_then x y z (inr (same, fewer)) (inl two) = inl (omega (arith, two, same))
smaller_then x y z (inr (same, fewer)) (inr (equal, less)) = inr (same ∙ equal, omega (arith, fewer, less))
