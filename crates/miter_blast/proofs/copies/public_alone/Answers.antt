use Rattle.std.proofs.Common.{◌≡◌}
use Rattle.design_cycles.proofs.Inputs.{if_ok}
use Rattle.ir_store.specs.Designs.{design_of, modules_of, module_of}
use Rattle.op_verifier.specs.Answered.{modules_verified}
use Rattle.miter_blast.specs.FlatCopy.{only_public, IsOnlyPublicAt}
use Rattle.miter_blast.proofs.CopyMade.{has_public}
use Rattle.miter_blast.proofs.copies.public_alone.Goals as goal

pub returns : goal.returns
returns c =
    if_ok (λ copy. design_of copy ≡ only_public (design_of c.design-design.result.now) c.as_bytes.result.now)
    (λ copy. IsOnlyPublicAt (design_of c.args.verified.now.design) c.args.number (design_of copy)) c.copy_with_one_public.result
    (λ copy is. has_public (modules_verified c.args.verified.now) (modules_of c.design-design.result.now) c.args.number (module_of c.module.result.now) c.as_bytes.result.now
    (design_of copy) c.design-design.ensures c.module.ensures c.as_bytes.ensures is)
    c.copy_with_one_public.ensures
