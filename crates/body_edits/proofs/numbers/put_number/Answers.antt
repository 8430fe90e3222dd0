use Rattle.std.proofs.Common.{sym}
use Rattle.std.proofs.lemmas.Result.{on_ok_weaker}
use Rattle.hw_model.specs.TypeViews.{type_of}
use Rattle.ir_store.specs.OperationViews.{location_of}
use Rattle.body_edits.specs.Views.{body_ops, position_in, op_seen}
use Rattle.body_edits.proofs.NumberOps.{untyped_none, number_named, has_number}
use Rattle.body_edits.proofs.ReadBodies.{op_seen_at}
use Rattle.body_edits.proofs.numbers.put_number.Goals as goal

pub unreachable-requires : goal.unreachable-requires
unreachable-requires c =
    untyped_none (body_ops c.args.body.now) (position_in c.args.body.now c.args.op) (op_seen c.args.body.now c.op-found.result)
    (op_seen_at c.args.body.now c.args.op c.op-found.result c.op-found.ensures) c.requires.typed (sym c.in-None.ensures)

pub put_in_place-requires-clause-named : goal.put_in_place-requires-clause-named
put_in_place-requires-clause-named c =
    number_named c.args.body.now c.args.number (type_of c.in-Some.ty.now) (location_of c.op-found.result.location) c.in_ok-constant-in-Some.constant c.in_ok-constant-in-Some.ensures

pub returns-clause-has : goal.returns-clause-has
returns-clause-has c =
    on_ok_weaker c.put_in_place.result
    (has_number c.args.body.now c.put_in_place.new.body (position_in c.args.body.now c.args.op) c.args.number (op_seen c.args.body.now c.op-found.result)
    (type_of c.in-Some.ty.now) c.in_ok-constant-in-Some.constant
    (op_seen_at c.args.body.now c.args.op c.op-found.result c.op-found.ensures) (sym c.in-Some.ensures) c.in_ok-constant-in-Some.ensures)
    c.put_in_place.ensures.replaced
