use Rattle.std.proofs.Common.{Some, ap, sym, ◌∙◌, arith}
use Rattle.shared_schedule.proofs.Looking.{looks}
use Rattle.shared_schedule.proofs.shared.Shared.look.Goals as goal

pub load-requires : goal.load-requires
load-requires g c = (
  c.requires.idle.table,
  omega (arith, c.args.self.now.words),
  looks g.P.Pieces.first g.P.Pieces.finished g.P.Pieces.copied c.args.self.now.table.shared.key _ _ c.args.seat.now.me (c.requires.idle.plan ∙ ap Some (sym c.args.self.now.key)),
)
