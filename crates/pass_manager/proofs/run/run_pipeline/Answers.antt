use Rattle.std.proofs.Common.{sym, subst, ap}
use Rattle.ir_store.specs.Designs.{design_of, numbered_module}
use Rattle.std.specs.Prelude.{map}
use Rattle.acceptance_laws.proofs.Accepted.{accepted_fit}
use Rattle.hw_model.specs.Design.{Design}
use Rattle.op_verifier.specs.Verdict.{IsAccepted}
use Rattle.printing_laws.specs.Printable.{Printable}
use Rattle.aggregate_lower.proofs.CanonicalAgain.{canonical_again}
use Rattle.printing_laws.proofs.VerifiedDesigns.{canonical_designs_are_printable}
use Rattle.pass_manager.specs.Results.{IsResult}
use Rattle.pass_manager.specs.Visits.{AreToldOf}
use Rattle.pass_manager.proofs.Results.{chosen_after, from_one, result_of, result_is_after}
use Rattle.pass_manager.proofs.Visits.{told_of}
use Rattle.pass_manager.proofs.run.run_pipeline.Goals as goal

-- accepted, and printable
abbrev Shown : Design → Type 0
Shown d = IsAccepted d × Printable d

pub loop-pass-init : goal.loop-pass-init
loop-pass-init g c =
    let d = design_of c.args.design.design in
    let printable = canonical_designs_are_printable d c.args.design.accepted c.args.design.canonical in
    let shown = subst Shown (sym (ap (map numbered_module) c.into_design-made.ensures)) (c.args.design.accepted, printable) in
    record { accepted = shown.0; printable = shown.1; made = λ f is. is; told = λ t is. is }

pub run_pass-requires-clause-fit : goal.run_pass-requires-clause-fit
run_pass-requires-clause-fit g c κs within = accepted_fit (design_of c.loop-pass.made) c.loop-pass.invariant.accepted c.loop-pass.invariant.printable

pub loop-pass-preserved : goal.loop-pass-preserved
loop-pass-preserved g c =
    let made = c.in_ok-run_pass.ensures.made in
    let after = chosen_after _ (design_of c.loop-pass.made) (design_of c.run_pass.new.design) c.loop-pass.invariant.accepted c.loop-pass.invariant.printable made in
    record {
      accepted = after.accepted;
      printable = after.printable;
      made = λ f is. c.loop-pass.invariant.made f
          (subst (λ z. IsResult z (design_of c.loop-pass.made) f) (sym (from_one c.as_slice-pass-items.result.now c.loop-pass.pass-index _ c.loop-pass-test.true))
          (design_of c.run_pass.new.design, made, is));
      told = λ t is. c.loop-pass.invariant.told t
          (subst (λ z. AreToldOf z (design_of c.loop-pass.made) (g.G.Gate.told c.loop-pass.gate) t) (sym (from_one c.as_slice-pass-items.result.now c.loop-pass.pass-index _ c.loop-pass-test.true))
          (design_of c.run_pass.new.design, g.G.Gate.told c.run_pass.new.gate, made, c.in_ok-run_pass.ensures.visits, is));
    }

pub new-requires : goal.new-requires
new-requires g c =
    let d = design_of c.args.design.design in
    let after = result_is_after c.args.pipeline.now d (design_of c.loop-pass.made) c.args.design.accepted (canonical_designs_are_printable d c.args.design.accepted c.args.design.canonical)
    (result_of c.args.pipeline.now c.as_slice-pass-items.result.now d (design_of c.into_design-made.result) (design_of c.loop-pass.made) c.loop-pass.pass-index
    c.as_slice-pass-items.ensures (ap (map numbered_module) c.into_design-made.ensures) c.loop-pass-test.false c.loop-pass.invariant.made) in
    record { accepted = after.accepted; canonical = canonical_again (design_of c.loop-pass.made) after.accepted after.printable }

pub returns-clause-made : goal.returns-clause-made
returns-clause-made g c =
    let d = design_of c.args.design.design in
    subst (IsResult c.args.pipeline.now d) (sym (ap (map numbered_module) c.new.ensures))
    (result_of c.args.pipeline.now c.as_slice-pass-items.result.now d (design_of c.into_design-made.result) (design_of c.loop-pass.made) c.loop-pass.pass-index
    c.as_slice-pass-items.ensures (ap (map numbered_module) c.into_design-made.ensures) c.loop-pass-test.false c.loop-pass.invariant.made)

pub returns-clause-visits : goal.returns-clause-visits
returns-clause-visits g c =
    told_of c.args.pipeline.now c.as_slice-pass-items.result.now (design_of c.args.design.design) (design_of c.into_design-made.result) (design_of c.loop-pass.made)
    (g.G.Gate.told c.args.gate.now) (g.G.Gate.told c.loop-pass.gate) c.loop-pass.pass-index
    c.as_slice-pass-items.ensures (ap (map numbered_module) c.into_design-made.ensures) c.loop-pass-test.false c.loop-pass.invariant.told
