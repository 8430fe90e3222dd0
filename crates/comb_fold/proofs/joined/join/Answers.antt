use Rattle.std.proofs.Common.{sym}
use Rattle.std.proofs.lemmas.Result.{on_ok_weaker}
use Rattle.hw_model.specs.TypeViews.{type_of}
use Rattle.body_edits.specs.Views.{body_ops, position_in, op_seen}
use Rattle.comb_fold.proofs.HasJoined.{has_joined}
use Rattle.body_edits.proofs.NumberOps.{untyped_none}
use Rattle.body_edits.proofs.ReadBodies.{op_seen_at}
use Rattle.comb_fold.proofs.joined.join.Goals as goal

pub unreachable-requires : goal.unreachable-requires
unreachable-requires c =
    untyped_none (body_ops c.args.body.now) (position_in c.args.body.now c.args.op) (op_seen c.args.body.now c.op-found.result)
    (op_seen_at c.args.body.now c.args.op c.op-found.result c.op-found.ensures) c.requires.typed (sym c.in-None.ensures)

pub returns-clause-joined : goal.returns-clause-joined
returns-clause-joined c =
    on_ok_weaker c.put_joined.result
    (has_joined c.args.body.now c.put_joined.new.body (position_in c.args.body.now c.args.op) c.in_ok-first.first c.in_ok-second.second c.args.two c.args.number (op_seen c.args.body.now c.op-found.result)
    (type_of c.in-Some.ty.now) c.in_ok-constant-in-Some.constant
    (op_seen_at c.args.body.now c.args.op c.op-found.result c.op-found.ensures) (sym c.in-Some.ensures) c.in_ok-constant-in-Some.ensures c.in_ok-first.ensures c.in_ok-second.ensures)
    c.put_joined.ensures.put
