use Rattle.std.proofs.Common.{◌≡◌, map, ap, subst, length, slice_get, Some, arith}
use Rattle.std.proofs.lemmas.List.{length-map}
use Rattle.ir_store.specs.Designs.{numbered_module, modules_of, module_of}
use Rattle.op_verifier.specs.Answered.{modules_verified}
use Rattle.miter_blast.proofs.Finding.{stored_at}
use Rattle.miter_blast.proofs.pair.module_in.Goals as goal

pub module-requires : goal.module-requires
module-requires c =
    let l = length-map (modules_verified c.args.verified.now) numbered_module in
    let k = ap length c.design.ensures in
    omega (arith, l, k, c.requires)

pub returns : goal.returns
returns c =
    subst (λ d. slice_get d c.args.number ≡ Some (numbered_module (module_of c.module.result.now))) (ap (map numbered_module) c.design.ensures)
    (stored_at (modules_of c.design.result.now) c.args.number (module_of c.module.result.now) c.module.ensures)
