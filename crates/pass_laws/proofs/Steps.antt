-- What designs keep where single changes of a body keep it.
use Rattle.std.proofs.Common.{◌≡◌, ℕ, zero, suc, ◌≤◌, List, Some, slice_get, sym, ap, subst, ◌∙◌, arith, set-set}
use Rattle.std.proofs.lemmas.Option.{slice_get_within}
use Rattle.wiring.proofs.Lists.{slice_get-set_same, set_some}
use Rattle.hw_model.specs.Types.{Name}
use Rattle.hw_model.specs.Design.{Op, Module, Design}
use Rattle.hw_model.specs.Weight.{weight}
use Rattle.edit_laws.specs.Laws.{with_body}
use Rattle.acceptance_laws.specs.Keeps.{IsFit}
use Rattle.pass_laws.specs.Steady.{IsSteady}
use Rattle.pass_laws.specs.Steps.{StepsBy}
use Rattle.pass_laws.proofs.Steady.{steady_self, steady_then}

-- a design keeps what passes keep that change bodies alone
pub record Keeps (d e : Design) : Type 0 where
  pub steady : IsSteady d e
  pub lighter : (s : Name) → weight e s ≤ weight d s

pub keeps_self : (d : Design) → IsFit d → Keeps d d
keeps_self d fit = record { steady = steady_self d fit; lighter = λ s. omega arith }

pub keeps_then : (d e f : Design) → Keeps d e → Keeps e f → Keeps d f
keeps_then d e f one two = record {
  steady = steady_then d e f one.steady two.steady;
  lighter = λ s. let first : weight e s ≤ weight d s = one.lighter s in let second : weight f s ≤ weight e s = two.lighter s in omega (arith, first, second);
}

-- the module whose body has changed
pub module_there : (d : Design) (k : ℕ) (m : Module) (os : List Op) → slice_get d k ≡ Some m → slice_get (with_body d k m os) k ≡ Some (record m { body = os })
module_there d k m os at = slice_get-set_same d k (record m { body = os }) (slice_get_within d k m at)

module _ (Step : List Op → List Op → Type 0) (once : (d : Design) (k : ℕ) (m : Module) (os : List Op) → IsFit d → slice_get d k ≡ Some m → Step m.body os → Keeps d (with_body d k m os)) where
  -- where each single change keeps a design, those that lead one after another do
  pub steps_keep : (n : ℕ) (d : Design) (k : ℕ) (m : Module) (os : List Op) → IsFit d → slice_get d k ≡ Some m → StepsBy Step n m.body os → Keeps d (with_body d k m os)
  steps_keep zero d k m os fit at same =
      let own : with_body d k m os ≡ d = ap (λ z. with_body d k m z) same ∙ set_some d k m at in
      subst (Keeps d) (sym own) (keeps_self d fit)
  steps_keep (suc n) d k m os fit at (between, leads, step) =
      let first : Keeps d (with_body d k m between) = steps_keep n d k m between fit at leads in
      let here : slice_get (with_body d k m between) k ≡ Some (record m { body = between }) = module_there d k m between at in
      let then : Keeps (with_body d k m between) (with_body (with_body d k m between) k (record m { body = between }) os) =
      once (with_body d k m between) k (record m { body = between }) os first.steady.fit here step in
      let both : with_body (with_body d k m between) k (record m { body = between }) os ≡ with_body d k m os = set-set d k (record m { body = between }) (record m { body = os }) in
      subst (Keeps d) both (keeps_then d (with_body d k m between) (with_body (with_body d k m between) k (record m { body = between }) os) first then)
