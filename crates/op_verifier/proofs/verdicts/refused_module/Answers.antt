use Rattle.std.proofs.Common.{ap, ◌∙◌}
use Rattle.opcode.specs.declared.listed.Listed.TheVariants as listed
use Rattle.ir_store.specs.Designs.{StoredModule}
use Rattle.op_verifier.specs.Faults.{refused_at}
use Rattle.op_verifier.proofs.WholeDesigns.{some_from}
use Rattle.op_verifier.proofs.verdicts.refused_module.Goals as goal

pub returns : goal.returns
returns c = λ m there. c.refused_at.ensures ∙ ap (λ (s : StoredModule). refused_at s.location listed.HwModule c.args.cause) (some_from (c.module.ensures ∙ there))
