use Rattle.std.proofs.Common.{◌<◌, Some, length, refl, ap, sym, subst, ◌∙◌, arith}
use Rattle.atomic_table.specs.Table.{rest}
use Rattle.shared_schedule.specs.declared.slot.Slot.TheVariants.{Away}
use Rattle.shared_schedule.specs.declared.view.Hold.TheVariants.{Begun}
use Rattle.shared_schedule.specs.Views.{callees_in, last_move, is_held}
use Rattle.shared_schedule.specs.Plays.{lent_body, moved, BodyIs}
use Rattle.shared_schedule.proofs.Lending.{lends-body}
use Rattle.shared_schedule.proofs.Giving.{gives-begun}
use Rattle.shared_schedule.proofs.Exchanging.{exchangeable, exchanged, came-out, stored-same}
use Rattle.shared_schedule.proofs.shared.Shared.take_body.Goals as goal

pub load-requires : goal.load-requires
load-requires g c = (
  c.requires.idle.table,
  omega (arith, c.args.self.now.words, c.requires.within),
  lends-body g.P.Pieces.first g.P.Pieces.finished g.P.Pieces.copied c.args.self.now.table.shared.key _ _ c.args.m c.args.seat.now.me (c.requires.idle.plan ∙ ap Some (sym c.args.self.now.key)) c.requires.idle.out
      (subst (λ p. c.args.m < length (callees_in p)) (sym c.args.self.now.key) c.requires.within) (ap is_held c.requires.due),
)

pub exchange-slot-requires : goal.exchange-slot-requires
exchange-slot-requires g c =
    let lent = c.load.ensures.2 c.args.self.now.table.shared.key (c.requires.idle.plan ∙ ap Some (sym c.args.self.now.key)) c.args.m refl in
    (c.load.ensures.0 ∙ c.requires.idle.table, exchangeable c.load.new.seat.me (lent_body c.args.seat.now.me.0 c.args.m) c.args.m lent.0 c.args.seat.now.me.1 lent.1)

pub load-requires-2 : goal.load-requires-2
load-requires-2 g c =
    let mine = c.requires.idle.plan ∙ ap Some (sym c.args.self.now.key) in
    let lent = c.load.ensures.2 c.args.self.now.table.shared.key mine c.args.m refl in
    let me = exchanged c.load.new.seat.me c.exchange-slot.new.seat.me (lent_body c.args.seat.now.me.0 c.args.m) c.args.m lent.0 Away c.args.seat.now.me.1 c.requires.idle.none lent.1 c.exchange-slot.ensures.3 in (
      c.exchange-slot.ensures.0 ∙ c.load.ensures.0 ∙ c.requires.idle.table,
      omega (arith, c.args.self.now.words),
      gives-begun g.P.Pieces.first g.P.Pieces.finished g.P.Pieces.copied c.args.self.now.table.shared.key _ _ c.args.m c.exchange-slot.new.seat.me (ap (λ z. z.0.plan) me ∙ mine) (ap (λ z. z.0.out) me) (ap (λ z. z.1) me)
          (subst (λ p. c.args.m < length (callees_in p)) (sym c.args.self.now.key) c.requires.within) (ap (λ z. last_move z.0.moves c.args.m) me ∙ c.requires.due),
    )

pub unreachable-requires : goal.unreachable-requires
unreachable-requires g c =
    let lent = c.load.ensures.2 c.args.self.now.table.shared.key (c.requires.idle.plan ∙ ap Some (sym c.args.self.now.key)) c.args.m refl in
    let body = subst (λ h. BodyIs g.P.Pieces.first g.P.Pieces.copied c.args.self.now.table.shared.key.pieces c.args.m h lent.0) c.requires.due lent.2 in
    c.in_default.not-Stored body.0 (came-out c.load.new.seat.me (lent_body c.args.seat.now.me.0 c.args.m) c.args.m lent.0 c.exchange-slot.result c.args.seat.now.me.1 lent.1 c.exchange-slot.ensures.2 ∙ body.1)

pub returns-clause-idle : goal.returns-clause-idle
returns-clause-idle g c =
    let mine = c.requires.idle.plan ∙ ap Some (sym c.args.self.now.key) in
    let lent = c.load.ensures.2 c.args.self.now.table.shared.key mine c.args.m refl in
    let me = exchanged c.load.new.seat.me c.exchange-slot.new.seat.me (lent_body c.args.seat.now.me.0 c.args.m) c.args.m lent.0 Away c.args.seat.now.me.1 c.requires.idle.none lent.1 c.exchange-slot.ensures.3 in
    let last = c.load-2.ensures.2 c.args.m (ap (λ z. z.0.out) me) in
    record {
      table = c.load-2.ensures.0 ∙ c.exchange-slot.ensures.0 ∙ c.load.ensures.0 ∙ c.requires.idle.table;
      plan = ap (λ z. z.0.plan) last ∙ ap (λ z. z.0.plan) me ∙ c.requires.idle.plan;
      out = ap (λ z. z.0.out) last;
      none = ap (λ z. z.1) last ∙ ap (λ z. rest z.1) me;
    }

pub returns-clause-begun : goal.returns-clause-begun
returns-clause-begun g c =
    let mine = c.requires.idle.plan ∙ ap Some (sym c.args.self.now.key) in
    let lent = c.load.ensures.2 c.args.self.now.table.shared.key mine c.args.m refl in
    let me = exchanged c.load.new.seat.me c.exchange-slot.new.seat.me (lent_body c.args.seat.now.me.0 c.args.m) c.args.m lent.0 Away c.args.seat.now.me.1 c.requires.idle.none lent.1 c.exchange-slot.ensures.3 in
    ap (λ z. z.0) (c.load-2.ensures.2 c.args.m (ap (λ z. z.0.out) me)) ∙ ap (λ z. moved z.0 c.args.m Begun) me

pub returns-clause-first : goal.returns-clause-first
returns-clause-first g c =
    let lent = c.load.ensures.2 c.args.self.now.table.shared.key (c.requires.idle.plan ∙ ap Some (sym c.args.self.now.key)) c.args.m refl in
    let body = subst (λ h. BodyIs g.P.Pieces.first g.P.Pieces.copied c.args.self.now.table.shared.key.pieces c.args.m h lent.0) c.requires.due lent.2 in
    let was = came-out c.load.new.seat.me (lent_body c.args.seat.now.me.0 c.args.m) c.args.m lent.0 c.exchange-slot.result c.args.seat.now.me.1 lent.1 c.exchange-slot.ensures.2 in
    subst (λ b. g.P.Pieces.first c.args.self.now.plan.pieces c.args.m b) (stored-same (sym body.1 ∙ sym was ∙ c.in-Stored.is))
    (subst (λ p. g.P.Pieces.first p.pieces c.args.m body.0) c.args.self.now.key body.2)
