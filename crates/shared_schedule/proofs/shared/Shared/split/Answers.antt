use Rattle.std.proofs.Common.{Some, ap, sym, subst, ◌∙◌, arith}
use Rattle.atomic_table.specs.Table.{Splits}
use Rattle.shared_schedule.specs.Views.{new_view}
use Rattle.shared_schedule.specs.Rule.{Rule}
use Rattle.shared_schedule.specs.Plays.{split_view}
use Rattle.shared_schedule.proofs.Gathering.{splits}
use Rattle.shared_schedule.proofs.shared.Shared.split.Goals as goal

pub split_seat-requires : goal.split_seat-requires
split_seat-requires g c = let v = c.args.seat.now.me.0 in (
  c.requires.idle.table,
  omega (arith, c.args.self.now.words),
  subst (λ n. Splits (Rule g.P.Pieces.first g.P.Pieces.finished g.P.Pieces.copied c.args.self.now.table.shared.key) n v (split_view v) (new_view v.plan)) (sym c.requires.first)
      (splits g.P.Pieces.first g.P.Pieces.finished g.P.Pieces.copied c.args.self.now.table.shared.key v (c.requires.idle.plan ∙ ap Some (sym c.args.self.now.key)) c.requires.idle.out c.requires.few),
)
