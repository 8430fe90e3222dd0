use Rattle.std.proofs.Common.{◌≡◌, map, sym, ap, subst, ◌∙◌}
use Rattle.hw_model.specs.Design.{Design}
use Rattle.ir_store.specs.Designs.{design_of, numbered_module}
use Rattle.acceptance_laws.specs.Keeps.{IsFit}
use Rattle.acceptance_laws.proofs.Accepted.{accepted_fit}
use Rattle.printing_laws.proofs.VerifiedDesigns.{canonical_designs_are_printable}
use Rattle.cse_pass.specs.UnusedAggregates.{IsWithoutUnusedAggregates}
use Rattle.aggregate_lower.proofs.CanonicalAgain.{canonical_again}
use Rattle.pass_manager.specs.Results.{AreModulesBy}
use Rattle.pass_manager.proofs.Results.{trimmed_after, for_export_after}
use Rattle.pass_manager.proofs.for_export.lowered_for_export.Goals as goal

pub trim_design-requires : goal.trim_design-requires
trim_design-requires c =
    let d = design_of c.args.design.design in
    let printable = canonical_designs_are_printable d c.args.design.accepted c.args.design.canonical in
    subst IsFit (sym (ap (map numbered_module) c.into_design-made.ensures)) (accepted_fit d c.args.design.accepted printable)

pub lower_aggregates-requires : goal.lower_aggregates-requires
lower_aggregates-requires c =
    let d = design_of c.args.design.design in
    let printable = canonical_designs_are_printable d c.args.design.accepted c.args.design.canonical in
    let same : design_of c.into_design-made.result ≡ d = ap (map numbered_module) c.into_design-made.ensures in
    let after = trimmed_after d (design_of c.trim_design.new.design) c.args.design.accepted printable
    (subst (λ (x : Design). AreModulesBy IsWithoutUnusedAggregates x (design_of c.trim_design.new.design)) same c.in_ok-trim_design.ensures) in
    accepted_fit (design_of c.trim_design.new.design) after.accepted after.printable

pub new-requires : goal.new-requires
new-requires c =
    let d = design_of c.args.design.design in
    let e = design_of c.lower_aggregates.new.design in
    let printable = canonical_designs_are_printable d c.args.design.accepted c.args.design.canonical in
    let same : design_of c.into_design-made.result ≡ d = ap (map numbered_module) c.into_design-made.ensures in
    let after = for_export_after d e c.args.design.accepted printable (
      design_of c.trim_design.new.design,
      subst (λ (x : Design). AreModulesBy IsWithoutUnusedAggregates x (design_of c.trim_design.new.design)) same c.in_ok-trim_design.ensures,
      c.in_ok-lower_aggregates.ensures.ok,
    ) in
    record { accepted = after.accepted; canonical = canonical_again e after.accepted after.printable }

pub returns : goal.returns
returns c =
    let d = design_of c.args.design.design in
    let same : design_of c.into_design-made.result ≡ d = ap (map numbered_module) c.into_design-made.ensures in (
      design_of c.trim_design.new.design,
      subst (λ (x : Design). AreModulesBy IsWithoutUnusedAggregates x (design_of c.trim_design.new.design)) same c.in_ok-trim_design.ensures,
      ap (map numbered_module) c.new.ensures ∙ c.in_ok-lower_aggregates.ensures.ok,
    )
