use Rattle.std.proofs.Common.{Some, ap, sym, subst, ◌∙◌, arith}
use Rattle.shared_schedule.specs.Views.{callees_in}
use Rattle.shared_schedule.specs.Seats.{IsFinished}
use Rattle.shared_schedule.proofs.Joining.{joins}
use Rattle.shared_schedule.proofs.shared.Shared.join.Goals as goal

pub join_seat-requires : goal.join_seat-requires
join_seat-requires g c = (
  c.requires.idle.table,
  c.requires.other.table,
  c.requires.other.none,
  omega (arith, c.args.self.now.words),
  joins g.P.Pieces.first g.P.Pieces.finished g.P.Pieces.copied c.args.self.now.table.shared.key _ _ c.args.seat.now.me.0 c.args.other.me.0 (c.requires.idle.plan ∙ ap Some (sym c.args.self.now.key)) c.requires.idle.out
      (c.requires.other.plan ∙ ap Some (sym c.args.self.now.key)) c.requires.other.out (subst (λ p. IsFinished (callees_in p) c.args.other.me.0) (sym c.args.self.now.key) c.requires.finished),
)
