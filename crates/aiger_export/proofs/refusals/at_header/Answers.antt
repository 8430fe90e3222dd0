use Rattle.std.proofs.Common.{length, slice_get, ap, ap₂, ◌∙◌, arith}
use Rattle.std.proofs.lemmas.List.{length-map}
use Rattle.hw_model.specs.Design.{Module}
use Rattle.ir_store.specs.Designs.{module_of, numbered_module, design_of}
use Rattle.op_verifier.specs.Answered.{modules_verified}
use Rattle.op_verifier.specs.Faults.{header_refusal}
use Rattle.miter_blast.proofs.Finding.{stored_at, same_there}
use Rattle.aiger_export.proofs.refusals.at_header.Goals as goal

pub module-one-requires : goal.module-one-requires
module-one-requires c =
    let count = length-map (modules_verified c.args.verified.now) numbered_module in
    let same = ap length c.design.ensures in
    omega (arith, count, same, c.requires)

pub returns : goal.returns
returns c = λ m at.
    let ms = modules_verified c.args.verified.now in
    let x = module_of c.module-one.result.now in
    let same = same_there (design_of c.args.verified.now.design) c.args.number (numbered_module x) m (stored_at ms c.args.number x (c.module-one.ensures ∙ ap (λ ns. slice_get ns c.args.number) c.design.ensures)) at in
    c.refused_at.ensures ∙ ap₂ (λ (y : Module) k. header_refusal y k) same c.cause_of.ensures
