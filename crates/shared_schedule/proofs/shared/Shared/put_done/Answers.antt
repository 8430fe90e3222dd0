use Rattle.std.proofs.Common.{◌<◌, Some, length, refl, ap, sym, subst, ◌∙◌, arith}
use Rattle.atomic_table.specs.Table.{rest}
use Rattle.sched_core.specs.State.{IsEdge}
use Rattle.shared_schedule.specs.declared.slot.Slot.TheVariants.{Made}
use Rattle.shared_schedule.specs.declared.view.Hold.TheVariants.{Over}
use Rattle.shared_schedule.specs.Views.{callees_in, last_move, is_held, has_edge}
use Rattle.shared_schedule.specs.Plays.{lent_body, moved, BodyIs}
use Rattle.shared_schedule.proofs.Lending.{lends-body}
use Rattle.shared_schedule.proofs.Giving.{gives-over}
use Rattle.shared_schedule.proofs.Exchanging.{exchangeable, exchanged, came-out}
use Rattle.shared_schedule.proofs.shared.Shared.put_done.Goals as goal

pub load-requires : goal.load-requires
load-requires g c = (
  c.requires.idle.table,
  omega (arith, c.args.self.now.words, c.requires.within),
  lends-body g.P.Pieces.first g.P.Pieces.finished g.P.Pieces.copied c.args.self.now.table.shared.key _ _ c.args.m c.args.seat.now.me (c.requires.idle.plan ∙ ap Some (sym c.args.self.now.key)) c.requires.idle.out
      (subst (λ p. c.args.m < length (callees_in p)) (sym c.args.self.now.key) c.requires.within) (ap is_held c.requires.begun),
)

pub exchange-slot-requires : goal.exchange-slot-requires
exchange-slot-requires g c =
    let lent = c.load.ensures.2 c.args.self.now.table.shared.key (c.requires.idle.plan ∙ ap Some (sym c.args.self.now.key)) c.args.m refl in
    (c.load.ensures.0 ∙ c.requires.idle.table, exchangeable c.load.new.seat.me (lent_body c.args.seat.now.me.0 c.args.m) c.args.m lent.0 c.args.seat.now.me.1 lent.1)

pub load-requires-2 : goal.load-requires-2
load-requires-2 g c =
    let key = sym c.args.self.now.key in
    let mine = c.requires.idle.plan ∙ ap Some key in
    let lent = c.load.ensures.2 c.args.self.now.table.shared.key mine c.args.m refl in
    let me = exchanged c.load.new.seat.me c.exchange-slot.new.seat.me (lent_body c.args.seat.now.me.0 c.args.m) c.args.m lent.0 (Made c.args.body) c.args.seat.now.me.1 c.requires.idle.none lent.1 c.exchange-slot.ensures.3 in (
      c.exchange-slot.ensures.0 ∙ c.load.ensures.0 ∙ c.requires.idle.table,
      omega (arith, c.args.self.now.words),
      gives-over g.P.Pieces.first g.P.Pieces.finished g.P.Pieces.copied c.args.self.now.table.shared.key _ _ c.args.m c.exchange-slot.new.seat.me c.args.body (ap (λ z. z.0.plan) me ∙ mine) (ap (λ z. z.0.out) me) (ap (λ z. z.1) me)
          (subst (λ p. c.args.m < length (callees_in p)) key c.requires.within) (ap (λ z. last_move z.0.moves c.args.m) me ∙ c.requires.begun)
          (λ i edge. ap (λ z. has_edge z.0.emptied c.args.m i) me ∙ c.requires.emptied i (subst (λ p. IsEdge (callees_in p) c.args.m i) c.args.self.now.key edge))
          (subst (λ p. g.P.Pieces.finished p.pieces c.args.m c.args.body) key c.requires.finished),
    )

pub unreachable-requires : goal.unreachable-requires
unreachable-requires g c =
    let lent = c.load.ensures.2 c.args.self.now.table.shared.key (c.requires.idle.plan ∙ ap Some (sym c.args.self.now.key)) c.args.m refl in
    let away = subst (λ h. BodyIs g.P.Pieces.first g.P.Pieces.copied c.args.self.now.table.shared.key.pieces c.args.m h lent.0) c.requires.begun lent.2 in
    c.in_default.not-Away (came-out c.load.new.seat.me (lent_body c.args.seat.now.me.0 c.args.m) c.args.m lent.0 c.exchange-slot.result c.args.seat.now.me.1 lent.1 c.exchange-slot.ensures.2 ∙ away)

pub returns-clause-idle : goal.returns-clause-idle
returns-clause-idle g c =
    let mine = c.requires.idle.plan ∙ ap Some (sym c.args.self.now.key) in
    let lent = c.load.ensures.2 c.args.self.now.table.shared.key mine c.args.m refl in
    let me = exchanged c.load.new.seat.me c.exchange-slot.new.seat.me (lent_body c.args.seat.now.me.0 c.args.m) c.args.m lent.0 (Made c.args.body) c.args.seat.now.me.1 c.requires.idle.none lent.1 c.exchange-slot.ensures.3 in
    let last = c.load-2.ensures.2 c.args.m (ap (λ z. z.0.out) me) in
    record {
      table = c.load-2.ensures.0 ∙ c.exchange-slot.ensures.0 ∙ c.load.ensures.0 ∙ c.requires.idle.table;
      plan = ap (λ z. z.0.plan) last ∙ ap (λ z. z.0.plan) me ∙ c.requires.idle.plan;
      out = ap (λ z. z.0.out) last;
      none = ap (λ z. z.1) last ∙ ap (λ z. rest z.1) me;
    }

pub returns-clause-over : goal.returns-clause-over
returns-clause-over g c =
    let mine = c.requires.idle.plan ∙ ap Some (sym c.args.self.now.key) in
    let lent = c.load.ensures.2 c.args.self.now.table.shared.key mine c.args.m refl in
    let me = exchanged c.load.new.seat.me c.exchange-slot.new.seat.me (lent_body c.args.seat.now.me.0 c.args.m) c.args.m lent.0 (Made c.args.body) c.args.seat.now.me.1 c.requires.idle.none lent.1 c.exchange-slot.ensures.3 in
    ap (λ z. z.0) (c.load-2.ensures.2 c.args.m (ap (λ z. z.0.out) me)) ∙ ap (λ z. moved z.0 c.args.m Over) me
