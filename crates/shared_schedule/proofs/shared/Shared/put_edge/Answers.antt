use Rattle.std.proofs.Common.{◌≡◌, Some, ap, sym, subst, ◌∙◌, arith}
use Rattle.sched_core.specs.State.{callee, IsEdge}
use Rattle.shared_schedule.specs.declared.view.Hold.TheVariants.{Over}
use Rattle.shared_schedule.specs.Views.{callees_in, last_move}
use Rattle.shared_schedule.proofs.Lending.{lends-bare}
use Rattle.sched_core.proofs.EdgeSums.{edge_within}
use Rattle.shared_schedule.proofs.shared.Shared.put_edge.Goals as goal

pub compare_exchange-requires : goal.compare_exchange-requires
compare_exchange-requires g c =
    let key = sym c.args.self.now.key in (
      c.requires.idle.table,
      omega (arith, c.args.self.now.words, edge_within (callees_in c.args.self.now.plan) c.args.c c.args.i c.requires.edge),
      lends-bare g.P.Pieces.first g.P.Pieces.finished g.P.Pieces.copied c.args.self.now.table.shared.key _ _ c.args.c c.args.i c.args.seat.now.me (c.requires.idle.plan ∙ ap Some key) c.requires.idle.out
          (subst (λ p. IsEdge (callees_in p) c.args.c c.args.i) key c.requires.edge) (subst (λ p. last_move c.args.seat.now.me.0.moves (callee (callees_in p) c.args.c c.args.i) ≡ Some Over) key c.requires.over) c.requires.bare,
    )
