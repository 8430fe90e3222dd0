use Rattle.std.proofs.Common.{subst}
use Rattle.ir_store.specs.Designs.{design_of}
use Rattle.printing_laws.proofs.VerifiedDesigns.{canonical_designs_are_printable}
use Rattle.and_gates.specs.Faults.{IsFaultOf}
use Rattle.and_gates.proofs.ClockedSteps.{copied_alone}
use Rattle.and_gates.proofs.steps.and_gates.Goals as goal

pub fault_of-requires : goal.fault_of-requires
fault_of-requires c =
    let d = design_of c.args.design.now.design in
    let printable = canonical_designs_are_printable d c.args.design.now.accepted c.args.design.now.canonical in
    copied_alone d c.args.number (design_of c.in_ok-copy.copy.design) c.args.design.now.accepted printable c.in_ok-copy.ensures

pub clocked_step-requires : goal.clocked_step-requires
clocked_step-requires c =
    let d = design_of c.args.design.now.design in
    let printable = canonical_designs_are_printable d c.args.design.now.accepted c.args.design.now.canonical in
    copied_alone d c.args.number (design_of c.in_ok-copy.copy.design) c.args.design.now.accepted printable c.in_ok-copy.ensures

pub returns-in-Some-clause-refused : goal.returns-in-Some-clause-refused
returns-in-Some-clause-refused c =
    let e = design_of c.in_ok-copy.copy.design in
    (e, c.in_ok-copy.ensures, subst (IsFaultOf e) c.in-Some.is c.in_ok-fault.ensures)

pub returns-clause-ok : goal.returns-clause-ok
returns-clause-ok c = record {
  copied = c.in_ok-copy.ensures;
  faultless = subst (IsFaultOf (design_of c.in_ok-copy.copy.design)) c.in_default.is c.in_ok-fault.ensures;
  step = c.in_ok-step.ensures;
}
