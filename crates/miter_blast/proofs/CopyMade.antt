-- The steps by which a flat copy is made keep what the next one asks for.
use Rattle.std.proofs.Common.{◌≡◌, ℕ, List, [], ◌∷◌, map, Some, slice_get, sym, ap, ap₂, subst, ◌∙◌, option_map}
use Rattle.std.proofs.lemmas.Option.{slice_get-map}
use Rattle.hw_model.specs.Types.{Name}
use Rattle.hw_model.specs.Design.{Design}
use Rattle.ir_store.specs.Designs.{StoredModule, numbered_module}
use Rattle.stored_form.specs.Canonical.{IsCanonical}
use Rattle.op_verifier.specs.Verdict.{IsAccepted}
use Rattle.printing_laws.specs.Printable.{Printable}
use Rattle.printing_laws.proofs.VerifiedDesigns.{canonical_designs_are_printable}
use Rattle.acceptance_laws.specs.Keeps.{IsFit}
use Rattle.acceptance_laws.proofs.Accepted.{accepted_fit}
use Rattle.pass_pipeline.specs.declared.pass.Pass.TheVariants.{HwFlattenModules, HwLowerAggregates, SymbolDce}
use Rattle.pass_laws.specs.PassLaw.{IsAfter}
use Rattle.inline_pass.specs.DeadModules.{IsWithoutDead}
use Rattle.inline_pass.specs.Flattening.{IsFlattened}
use Rattle.inline_pass.proofs.DeadModulesGone.{dce_is_after}
use Rattle.inline_pass.proofs.FlatteningLaw.{flattening_is_after}
use Rattle.aggregate_lower.specs.Lowering.{lowered_aggregates}
use Rattle.aggregate_lower.proofs.LoweringLaw.{lowering_is_after}
use Rattle.aggregate_lower.proofs.CanonicalAgain.{canonical_again}
use Rattle.miter_blast.specs.FlatCopy.{is_other, only_public, IsOnlyPublicAt}
use Rattle.miter_blast.proofs.Marks.{marked_accepted}

pub has_public : (all read : List StoredModule) (n : ℕ) (m : StoredModule) (symbol : Name) (made : Design) → read ≡ all → Some m ≡ slice_get read n → symbol ≡ m.symbol
    → made ≡ only_public (map numbered_module read) symbol → IsOnlyPublicAt (map numbered_module all) n made
has_public all read n m symbol made same at named is = (
  numbered_module m,
  slice_get-map numbered_module all n ∙ ap (option_map numbered_module) (sym (at ∙ ap (λ ms. slice_get ms n) same)),
  is ∙ ap₂ (λ ms s. only_public (map numbered_module ms) s) same named,
)

module _ (d made : Design) (n : ℕ) (accepted : IsAccepted d) (canonical : IsCanonical d) (has : IsOnlyPublicAt d n made) where
  made_shown : IsAccepted made × Printable made
  made_shown =
      subst (λ x. IsAccepted x × Printable x) (sym has.2)
      (marked_accepted (is_other has.0.symbol) d accepted (canonical_designs_are_printable d accepted canonical))

  pub made_fit : IsFit made
  made_fit = accepted_fit made made_shown.0 made_shown.1

  after_dead : (g : Design) → IsWithoutDead made g → IsAfter (SymbolDce ∷ []) made g
  after_dead g without = dce_is_after made g made_shown.0 made_shown.1 without

  pub reached_fit : (g : Design) → IsWithoutDead made g → IsFit g
  reached_fit g without = let left = after_dead g without in accepted_fit g left.accepted left.printable

  module _ (g f : Design) (without : IsWithoutDead made g) (flattened : IsFlattened g f) where
    after_flattening : IsAfter (HwFlattenModules ∷ []) g f
    after_flattening = let left = after_dead g without in flattening_is_after g f left.accepted left.printable flattened

    pub flattened_fit : IsFit f
    flattened_fit = accepted_fit f after_flattening.accepted after_flattening.printable

    pub lowered_left : (e : Design) → e ≡ lowered_aggregates f → IsAccepted e × IsCanonical e
    lowered_left e is =
        let left : IsAfter (HwLowerAggregates ∷ []) f e = lowering_is_after f e after_flattening.accepted after_flattening.printable is in
        (left.accepted, canonical_again e left.accepted left.printable)
