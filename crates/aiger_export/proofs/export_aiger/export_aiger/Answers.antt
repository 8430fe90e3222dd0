use Rattle.std.proofs.Common.{sym, subst, ◌∙◌}
use Rattle.ir_store.specs.Designs.{design_of}
use Rattle.op_verifier.specs.Answered.{modules_verified}
use Rattle.miter_blast.proofs.Finding.{below_of}
use Rattle.aiger_export.specs.Exports.{IsExportRefusal, modules}
use Rattle.aiger_export.proofs.PublicNumbers.{public_there}
use Rattle.aiger_export.proofs.StepTexts.{public_within, text_there}
use Rattle.aiger_export.proofs.export_aiger.export_aiger.Goals as goal

pub returns-in_default-clause-refused : goal.returns-in_default-clause-refused
returns-in_default-clause-refused c =
    subst (IsExportRefusal (design_of c.args.design.now.design)) (sym c.not_one_public.ensures) (modules (sym c.only_public.ensures ∙ c.in_default.is))

pub and_gates-requires : goal.and_gates-requires
and_gates-requires c = public_within (modules_verified c.args.design.now) c.in-Some.number (sym c.only_public.ensures ∙ c.in-Some.is)

pub refused-requires-clause-number : goal.refused-requires-clause-number
refused-requires-clause-number c =
    let d = design_of c.args.design.now.design in
    let there = public_there d c.in-Some.number (sym c.only_public.ensures ∙ c.in-Some.is) in
    below_of d c.in-Some.number there.0 there.1

pub returns-in-Err-clause-refused : goal.returns-in-Err-clause-refused
returns-in-Err-clause-refused c =
    let only = sym c.only_public.ensures ∙ c.in-Some.is in
    let there = public_there (design_of c.args.design.now.design) c.in-Some.number only in
    c.refused.ensures there.0 (record { only = only; at = there.1 })

pub returns-clause-ok : goal.returns-clause-ok
returns-clause-ok c =
    let made = c.in-Ok.made in
    text_there (design_of c.args.design.now.design) c.in-Some.number (design_of made.copy.design) made.step.circuit made.step.signals.items c.in-Ok.ensures.ok
    c.in_ok-step_text.field-0 (sym c.only_public.ensures ∙ c.in-Some.is) (c.in_ok-step_text.ensures c.in-Ok.ensures.ok.step)
