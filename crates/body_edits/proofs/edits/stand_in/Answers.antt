use Rattle.std.proofs.Common.{subst, sym}
use Rattle.ir_store.specs.BodyOps.{IsUnused}
use Rattle.body_edits.proofs.FitOps.{fit_live, fit_unused}
use Rattle.body_edits.proofs.IdsAfter.{ids_stood_in}
use Rattle.body_edits.proofs.StandingValues.{still_there, stood_in}
use Rattle.body_edits.proofs.edits.stand_in.Goals as goal

pub erase-requires-clause-live : goal.erase-requires-clause-live
erase-requires-clause-live c = still_there c.args.op c.args.value c.args.body.now c.replace_all_uses.new.self c.requires.live c.replace_all_uses.ensures.ops

pub erase-requires-clause-unused : goal.erase-requires-clause-unused
erase-requires-clause-unused c =
    subst (IsUnused c.args.op.index) (sym c.replace_all_uses.ensures.ops) (fit_unused c.args.body.now c.args.op c.args.value c.requires.may)

pub returns-clause-ops : goal.returns-clause-ops
returns-clause-ops c =
    stood_in c.args.op c.args.value c.args.body.now c.replace_all_uses.new.self c.erase.new.self (fit_live c.args.body.now c.requires.fit) c.requires.live
    (fit_unused c.args.body.now c.args.op c.args.value c.requires.may) c.replace_all_uses.ensures.ops c.erase.ensures.ops

pub returns-clause-ids : goal.returns-clause-ids
returns-clause-ids c =
    ids_stood_in c.args.op c.args.value c.args.body.now c.replace_all_uses.new.self c.erase.new.self c.replace_all_uses.ensures.ops c.erase.ensures.ops
