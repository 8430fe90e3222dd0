use Rattle.std.proofs.Common.{◌<◌, length, map, sym, subst}
use Rattle.hw_model.specs.Hierarchy.{HasNoRecursion}
use Rattle.ir_store.specs.Designs.{design_of, numbered_module}
use Rattle.design_cycles.specs.Asked.{HasDistinctSymbols}
use Rattle.design_cycles.specs.Calls.{call_lists}
use Rattle.design_cycles.proofs.Inputs.{if_ok}
use Rattle.op_verifier.specs.Answered.{modules_verified}
use Rattle.op_verifier.proofs.AcceptedDesigns.{accepted_distinct, accepted_finite}
use Rattle.run_lists.specs.Runs.{AreRunsOf}
use Rattle.module_sums.specs.Sums.{IsBelow}
use Rattle.module_sums.specs.RegisterWidths.{AreRegisterRuns}
use Rattle.miter_blast.specs.Comparable.{register_widths}
use Rattle.miter_blast.proofs.Compared.{stored_below}
use Rattle.miter_blast.proofs.EarlyRefusals.{registers_are}
use Rattle.miter_blast.proofs.early.registers_of.Goals as goal

pub modules_below-requires-clause-distinct : goal.modules_below-requires-clause-distinct
modules_below-requires-clause-distinct c =
    subst (λ ms. HasDistinctSymbols (map numbered_module ms)) (sym c.design-design.ensures) (accepted_distinct (design_of c.args.verified.now.design) c.args.verified.now.accepted)

pub modules_below-requires-clause-finite : goal.modules_below-requires-clause-finite
modules_below-requires-clause-finite c =
    subst (λ ms. HasNoRecursion (map numbered_module ms)) (sym c.design-design.ensures) (accepted_finite (design_of c.args.verified.now.design) c.args.verified.now.accepted)

pub modules_below-requires-clause-there : goal.modules_below-requires-clause-there
modules_below-requires-clause-there c =
    subst (λ ms. c.args.number < length ms) (sym c.design-design.ensures) (stored_below (modules_verified c.args.verified.now) c.args.number c.requires)

pub register_runs-requires-clause-distinct : goal.register_runs-requires-clause-distinct
register_runs-requires-clause-distinct c =
    subst (λ ms. HasDistinctSymbols (map numbered_module ms)) (sym c.design-design.ensures) (accepted_distinct (design_of c.args.verified.now.design) c.args.verified.now.accepted)

pub register_runs-requires-clause-finite : goal.register_runs-requires-clause-finite
register_runs-requires-clause-finite c =
    subst (λ ms. HasNoRecursion (map numbered_module ms)) (sym c.design-design.ensures) (accepted_finite (design_of c.args.verified.now.design) c.args.verified.now.accepted)

pub register_runs-requires-clause-below : goal.register_runs-requires-clause-below
register_runs-requires-clause-below c =
    subst (IsBelow (call_lists (design_of c.design-design.result.now)) c.args.number) (sym c.as_slice.ensures.value) c.in_ok-below.ensures

pub returns : goal.returns
returns c =
    λ m at.
    if_ok (λ list. AreRegisterRuns (design_of c.design-design.result.now) c.args.number list.runs.items)
    (λ list. AreRunsOf (register_widths (design_of c.args.verified.now.design) m.symbol) list.runs.items) c.register_runs.result
    (λ list are. registers_are (design_of c.args.verified.now.design) c.args.number m list.runs.items at
    (subst (λ ms. AreRegisterRuns (map numbered_module ms) c.args.number list.runs.items) c.design-design.ensures are))
    c.register_runs.ensures
