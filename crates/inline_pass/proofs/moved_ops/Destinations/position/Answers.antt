use Rattle.std.proofs.Common.{sym, arith}
use Rattle.std.proofs.lemmas.List.{length-map}
use Rattle.ir_store.specs.declared.operation.OpId.{OpId}
use Rattle.body_index.proofs.PositionTables.{position_kept, position_missing}
use Rattle.inline_pass.specs.Destinations.{destination_ids}
use Rattle.inline_pass.proofs.moved_ops.Destinations.position.Goals as goal

pub returns-in-Some : goal.returns-in-Some
returns-in-Some c =
    let self = c.args.self.now in
    let kept = position_kept (destination_ids self) self.positions.now c.args.id.index c.in-Some.position c.requires.distinct c.requires.positions (sym c.in-Some.ensures) in
    let size = length-map self.ids.now (λ (i : OpId). i.index) in
    omega (arith, kept, c.min.ensures, size)

pub returns-in-None : goal.returns-in-None
returns-in-None c =
    let self = c.args.self.now in
    let kept = position_missing (destination_ids self) self.positions.now c.args.id.index c.requires.positions (sym c.in-None.ensures) in
    let size = length-map self.ids.now (λ (i : OpId). i.index) in
    omega (arith, kept, size)
