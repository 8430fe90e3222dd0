-- What designs keep to whose operations lowered registers lead.
use Rattle.std.proofs.Common.{◌≡◌, ℕ, List, Some, slice_get, sym, subst}
use Rattle.hw_model.specs.Design.{Op, Module, Design}
use Rattle.acceptance_laws.specs.Keeps.{IsFit}
use Rattle.ir_store.specs.declared.body.Body.{Body}
use Rattle.body_edits.specs.FitBodies.{IsOfFit}
use Rattle.body_edits.specs.Views.{body_ops}
use Rattle.body_edits.proofs.FitKept.{of_fit_kept}
use Rattle.pass_laws.proofs.Steps.{steps_keep}
use Rattle.seq_lower.specs.Lowered.{IsLowering, Lowers}
use Rattle.seq_lower.proofs.OneRegister.{Followed, lowered_once}

lowering_once : (d : Design) (k : ℕ) (m : Module) (os : List Op) → IsFit d → slice_get d k ≡ Some m → IsLowering m.body os → Followed d k m os
lowering_once d k m os fit at (i, is) = subst (Followed d k m) (sym is) (lowered_once d k m i fit at)

-- lowered registers keep what a design does, and make no module heavier
pub lowering_keeps : (d : Design) (k : ℕ) (m : Module) (os : List Op) → IsFit d → slice_get d k ≡ Some m → Lowers m.body os → Followed d k m os
lowering_keeps d k m os fit at leads = steps_keep IsLowering lowering_once leads.count d k m os fit at leads.leads

-- ---- bodies in code

-- a body to whose operations lowered registers lead from those of one of a fit design is of one too
pub fit_after : (before after : Body) → IsOfFit before → Lowers (body_ops before) (body_ops after) → IsOfFit after
fit_after before after of leads =
    of_fit_kept before after of (lowering_keeps of.design of.number of.owner (body_ops after) of.fit of.there (subst (λ z. Lowers z (body_ops after)) (sym of.is_body) leads))
