use Rattle.std.proofs.Common.{length, ap, sym, arith}
use Rattle.std.proofs.lemmas.List.{length-map}
use Rattle.ir_store.specs.Bodies.{ids_of, op_id}
use Rattle.ir_store.proofs.BodyLemmas.{ids_once}
use Rattle.body_index.proofs.PositionTables.{position_kept, position_missing}
use Rattle.body_index.proofs.op_index.OpIndex.position.Goals as goal

pub returns-in-Some : goal.returns-in-Some
returns-in-Some c =
    let self = c.args.self.now in
    let kept = position_kept (ids_of self.body.now) self.positions.items c.args.id.index c.in-Some.position (ids_once self.body.now) self.known (sym c.in-Some.ensures) in
    omega (arith, kept, c.min.ensures, c.len.ensures, ap length self.all, length-map (ids_of self.body.now) op_id)

pub returns-in-None : goal.returns-in-None
returns-in-None c =
    let self = c.args.self.now in
    let kept = position_missing (ids_of self.body.now) self.positions.items c.args.id.index self.known (sym c.in-None.ensures) in
    omega (arith, kept, c.len-in-None.ensures, ap length self.all, length-map (ids_of self.body.now) op_id)
