use Rattle.std.specs.Option.{option_map}
use Rattle.hw_model.specs.TypeViews.{type_of}
use Rattle.op_checks.proofs.Lists.{settled_index, settled_past}
use Rattle.op_checks.proofs.type_lists.settled_at.Goals as goal

pub returns-in-Some : goal.returns-in-Some
returns-in-Some c =
    let h = c.in-Some.ensures.lookup in
    settled_index (option_map (λ t. type_of t.now)) c.args.operands.now c.args.at c.in-Some.ty.now h.3.0 h.1

pub returns-in-None : goal.returns-in-None
returns-in-None c =
    let h = c.in-None.ensures.lookup in
    settled_past (option_map (λ t. type_of t.now)) c.args.operands.now c.args.at h.3
