use Rattle.std.proofs.Common.{refl, sym, subst}
use Rattle.ir_store.specs.Designs.{design_of}
use Rattle.inline_pass.specs.OneBody.{IsFlatBody}
use Rattle.pass_manager.proofs.flat_work.FlatWorkWorkFlatBodies.copy.Goals as goal

pub returns : goal.returns
returns c = (c.in_ok-try_clone.field-0, refl, subst (IsFlatBody (design_of c.args.plan.now.pieces.before.value) c.args.m) (sym c.in_ok-try_clone.ensures) c.requires.made)
