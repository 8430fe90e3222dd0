use Rattle.std.proofs.Common.{◌≡◌, ap, ◌∙◌, sym, subst, Option, Contains}
use Rattle.opcode.specs.declared.listed.Listed.{Listed}
use Rattle.ir_store.specs.BodyOps.{BodyOp, op_at}
use Rattle.ir_store.specs.Bodies.{read_op}
use Rattle.ir_store.specs.OperationViews.{location_of}
use Rattle.ir_store.specs.Designs.{StoredModule, module_of}
use Rattle.design_cycles.specs.Positions.{ids_of_module}
use Rattle.hw_model.specs.Opcodes.{opcode_of}
use Rattle.op_verifier.specs.Faults.{refused_at}
use Rattle.op_verifier.proofs.WholeDesigns.{some_from}
use Rattle.op_verifier.proofs.verdicts.refused_op.Goals as goal

pub op-op-requires : goal.op-op-requires
op-op-requires c = subst (λ (x : Option StoredModule). Contains (ids_of_module x) c.args.at.op.index) (sym c.module.ensures) c.requires.live

pub returns : goal.returns
returns c = λ m o there is.
    let e : module_of c.module.result.now ≡ m = some_from (c.module.ensures ∙ there) in
    let f : read_op c.args.at.op c.op-op.result ≡ o = some_from (sym c.op-op.ensures ∙ ap (λ (x : StoredModule). op_at x.ops c.args.at.op.index) e ∙ is) in
    c.refused_at.ensures ∙ ap (λ (l : Listed). refused_at (location_of c.op-op.result.location) l c.args.cause) c.listed.ensures
    ∙ ap (λ (x : BodyOp). refused_at x.parts.location (opcode_of x.parts.kind) c.args.cause) f
