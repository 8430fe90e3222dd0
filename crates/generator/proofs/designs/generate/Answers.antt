use Rattle.std.proofs.Common.{sym, subst}
use Rattle.ir_store.specs.Designs.{design_of}
use Rattle.stored_form.specs.Canonical.{IsCanonical}
use Rattle.op_verifier.specs.Answered.{Explains}
use Rattle.op_verifier.specs.Verdict.{IsAccepted}
use Rattle.generator.proofs.AcceptedDesigns.{accepted_design, never_refused}
use Rattle.generator.proofs.CanonicalModules.{canonical_design}
use Rattle.generator.proofs.designs.generate.Goals as goal

pub verify-requires : goal.verify-requires
verify-requires c = subst IsCanonical (sym c.in_ok-design.ensures) (canonical_design c.args.seed c.args.n c.requires.few)

pub unreachable-requires : goal.unreachable-requires
unreachable-requires c =
    never_refused (design_of c.in_ok-design.design) c.in-Err-Refused.field-0-0
    (subst IsAccepted (sym c.in_ok-design.ensures) (accepted_design c.args.seed c.args.n c.requires.few))
    (subst (Explains (design_of c.in_ok-design.design)) c.in-Err-Refused.field-0-is c.in-Err-Refused.ensures.err)
