use Rattle.std.proofs.Common.{sym, subst}
use Rattle.ir_store.specs.Designs.{design_of}
use Rattle.stored_form.specs.Canonical.{IsCanonical}
use Rattle.op_verifier.specs.Answered.{Explains}
use Rattle.op_verifier.specs.Verdict.{IsAccepted}
use Rattle.aiger_reader.specs.Kept.{tree_of}
use Rattle.aiger_design.proofs.AcceptedDesign.{imported_accepted}
use Rattle.aiger_design.proofs.CanonicalDesign.{imported_canonical}
use Rattle.aiger_text.proofs.BelowBodies.{never_refused}
use Rattle.aiger_text.proofs.import_text.import_aiger.Goals as goal

pub verify-requires : goal.verify-requires
verify-requires c =
    subst IsCanonical (sym c.in-Ok-design_of_text.ensures) (imported_canonical c.args.source.now (tree_of c.in-Ok.text) c.in-Ok.ensures.ok c.in-Ok.ensures.short)

pub unreachable-requires : goal.unreachable-requires
unreachable-requires c =
    never_refused (design_of c.in-Ok-design_of_text.design) c.in-Err-Refused.field-0-0
    (subst IsAccepted (sym c.in-Ok-design_of_text.ensures) (imported_accepted c.args.source.now (tree_of c.in-Ok.text) c.in-Ok.ensures.ok c.in-Ok.ensures.short))
    (subst (Explains (design_of c.in-Ok-design_of_text.design)) c.in-Err-Refused.field-0-is c.in-Err-Refused.ensures.err)
