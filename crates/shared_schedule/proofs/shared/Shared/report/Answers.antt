use Rattle.std.proofs.Common.{◌≡◌, Some, [], ◌∷◌, ap, sym, subst, ◌∙◌, arith}
use Rattle.atomic_table.specs.Table.{rest}
use Rattle.sched_core.specs.State.{callee, IsEdge}
use Rattle.shared_schedule.specs.declared.slot.Slot.TheVariants.{Copied}
use Rattle.shared_schedule.specs.declared.view.Hold.TheVariants.{Over}
use Rattle.shared_schedule.specs.Views.{callees_in, last_move}
use Rattle.shared_schedule.specs.Rule.{edge_slot}
use Rattle.shared_schedule.proofs.Telling.{reports}
use Rattle.sched_core.proofs.EdgeSums.{edge_within}
use Rattle.shared_schedule.proofs.shared.Shared.report.Goals as goal

pub fetch_sub-requires : goal.fetch_sub-requires
fetch_sub-requires g c =
    let key = sym c.args.self.now.key in
    let has = c.requires.copy.1 in (
      has.table,
      omega (arith, c.args.self.now.words, edge_within (callees_in c.args.self.now.plan) c.args.c c.args.i c.requires.edge),
      reports g.P.Pieces.first g.P.Pieces.finished g.P.Pieces.copied c.args.self.now.table.shared.key _ _ c.args.c c.args.i c.args.seat.now.me c.requires.copy.0 (has.plan ∙ ap Some key) has.out
          (subst (λ p. c.args.seat.now.me.1 ≡ (edge_slot (callees_in p) c.args.c c.args.i, Copied c.requires.copy.0) ∷ []) key has.copy)
          (subst (λ p. IsEdge (callees_in p) c.args.c c.args.i) key c.requires.edge) (subst (λ p. last_move c.args.seat.now.me.0.moves (callee (callees_in p) c.args.c c.args.i) ≡ Some Over) key c.requires.over) c.requires.bare
          (subst (λ p. g.P.Pieces.copied p.pieces (callee (callees_in p) c.args.c c.args.i) c.requires.copy.0) key c.requires.copy.2),
    )

pub returns-clause-idle : goal.returns-clause-idle
returns-clause-idle g c =
    let has = c.requires.copy.1 in
    let last = c.fetch_sub.ensures.2 c.args.c c.args.i has.out in
    record {
      table = c.fetch_sub.ensures.0 ∙ has.table;
      plan = ap (λ z. z.0.plan) last ∙ has.plan;
      out = ap (λ z. z.0.out) last;
      none = ap (λ z. z.1) last ∙ ap rest has.copy;
    }
