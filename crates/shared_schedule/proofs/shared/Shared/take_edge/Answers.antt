use Rattle.std.proofs.Common.{Some, [], ◌∷◌, refl, ap, sym, subst, ◌∙◌, arith}
use Rattle.atomic_table.specs.Table.{rest}
use Rattle.sched_core.specs.State.{callee, IsEdge}
use Rattle.shared_schedule.specs.declared.slot.Slot.TheVariants.{Copied, Cleared}
use Rattle.shared_schedule.specs.Views.{callees_in, last_move, has_edge}
use Rattle.shared_schedule.specs.Rule.{edge_slot}
use Rattle.shared_schedule.specs.Plays.{lent_edge, cleared}
use Rattle.shared_schedule.proofs.Lending.{lends-copy}
use Rattle.shared_schedule.proofs.Giving.{gives-edge}
use Rattle.shared_schedule.proofs.Exchanging.{exchangeable, exchanged, came-out, copied-same}
use Rattle.sched_core.proofs.EdgeSums.{edge_within}
use Rattle.shared_schedule.proofs.shared.Shared.take_edge.Goals as goal

pub compare_exchange-requires : goal.compare_exchange-requires
compare_exchange-requires g c =
    let key = sym c.args.self.now.key in (
      c.requires.idle.table,
      omega (arith, c.args.self.now.words, edge_within (callees_in c.args.self.now.plan) c.args.c c.args.i c.requires.edge),
      lends-copy g.P.Pieces.first g.P.Pieces.finished g.P.Pieces.copied c.args.self.now.table.shared.key _ _ c.args.c c.args.i c.args.seat.now.me (c.requires.idle.plan ∙ ap Some key) c.requires.idle.out
          (subst (λ p. IsEdge (callees_in p) c.args.c c.args.i) key c.requires.edge) c.requires.begun c.requires.full,
    )

pub exchange-slot-requires : goal.exchange-slot-requires
exchange-slot-requires g c =
    let key = sym c.args.self.now.key in
    let lent = c.compare_exchange.ensures.2 c.args.self.now.table.shared.key (c.requires.idle.plan ∙ ap Some key) c.args.c c.args.i refl refl in
    let position = sym (c.slot_of-at.ensures ∙ ap (λ p. edge_slot (callees_in p) c.args.c c.args.i) key) in
    let out = lent.1 ∙ ap (λ n. (lent_edge c.args.seat.now.me.0 c.args.c c.args.i, (n, Copied lent.0) ∷ c.args.seat.now.me.1)) position in
    (c.compare_exchange.ensures.0 ∙ c.requires.idle.table, exchangeable c.compare_exchange.new.seat.me (lent_edge c.args.seat.now.me.0 c.args.c c.args.i) c.slot_of-at.result (Copied lent.0) c.args.seat.now.me.1 out)

pub load-requires : goal.load-requires
load-requires g c =
    let key = sym c.args.self.now.key in
    let lent = c.compare_exchange.ensures.2 c.args.self.now.table.shared.key (c.requires.idle.plan ∙ ap Some key) c.args.c c.args.i refl refl in
    let position = sym (c.slot_of-at.ensures ∙ ap (λ p. edge_slot (callees_in p) c.args.c c.args.i) key) in
    let out = lent.1 ∙ ap (λ n. (lent_edge c.args.seat.now.me.0 c.args.c c.args.i, (n, Copied lent.0) ∷ c.args.seat.now.me.1)) position in
    let me = exchanged c.compare_exchange.new.seat.me c.exchange-slot.new.seat.me (lent_edge c.args.seat.now.me.0 c.args.c c.args.i) c.slot_of-at.result
    (Copied lent.0) Cleared c.args.seat.now.me.1 c.requires.idle.none out c.exchange-slot.ensures.3 in (
      c.exchange-slot.ensures.0 ∙ c.compare_exchange.ensures.0 ∙ c.requires.idle.table,
      omega (arith, c.args.self.now.words),
      gives-edge g.P.Pieces.first g.P.Pieces.finished g.P.Pieces.copied c.args.self.now.table.shared.key _ _ c.args.c c.args.i c.exchange-slot.new.seat.me (ap (λ z. z.0.plan) me ∙ c.requires.idle.plan ∙ ap Some key) (ap (λ z. z.0.out) me)
          (ap (λ z. z.1) me ∙ ap (λ n. (n, Cleared) ∷ []) (sym position)) (subst (λ p. IsEdge (callees_in p) c.args.c c.args.i) key c.requires.edge)
          (ap (λ z. last_move z.0.moves c.args.c) me ∙ c.requires.begun) (ap (λ z. has_edge z.0.emptied c.args.c c.args.i) me ∙ c.requires.full),
    )

pub unreachable-requires : goal.unreachable-requires
unreachable-requires g c =
    let key = sym c.args.self.now.key in
    let lent = c.compare_exchange.ensures.2 c.args.self.now.table.shared.key (c.requires.idle.plan ∙ ap Some key) c.args.c c.args.i refl refl in
    let position = sym (c.slot_of-at.ensures ∙ ap (λ p. edge_slot (callees_in p) c.args.c c.args.i) key) in
    let out = lent.1 ∙ ap (λ n. (lent_edge c.args.seat.now.me.0 c.args.c c.args.i, (n, Copied lent.0) ∷ c.args.seat.now.me.1)) position in
    c.in_default.not-Copied lent.0 (came-out c.compare_exchange.new.seat.me (lent_edge c.args.seat.now.me.0 c.args.c c.args.i) c.slot_of-at.result (Copied lent.0) c.exchange-slot.result c.args.seat.now.me.1 out c.exchange-slot.ensures.2)

pub returns-clause-idle : goal.returns-clause-idle
returns-clause-idle g c =
    let key = sym c.args.self.now.key in
    let lent = c.compare_exchange.ensures.2 c.args.self.now.table.shared.key (c.requires.idle.plan ∙ ap Some key) c.args.c c.args.i refl refl in
    let position = sym (c.slot_of-at.ensures ∙ ap (λ p. edge_slot (callees_in p) c.args.c c.args.i) key) in
    let out = lent.1 ∙ ap (λ n. (lent_edge c.args.seat.now.me.0 c.args.c c.args.i, (n, Copied lent.0) ∷ c.args.seat.now.me.1)) position in
    let me = exchanged c.compare_exchange.new.seat.me c.exchange-slot.new.seat.me (lent_edge c.args.seat.now.me.0 c.args.c c.args.i) c.slot_of-at.result
    (Copied lent.0) Cleared c.args.seat.now.me.1 c.requires.idle.none out c.exchange-slot.ensures.3 in
    let last = c.load.ensures.2 c.args.c c.args.i (ap (λ z. z.0.out) me) in
    record {
      table = c.load.ensures.0 ∙ c.exchange-slot.ensures.0 ∙ c.compare_exchange.ensures.0 ∙ c.requires.idle.table;
      plan = ap (λ z. z.0.plan) last ∙ ap (λ z. z.0.plan) me ∙ c.requires.idle.plan;
      out = ap (λ z. z.0.out) last;
      none = ap (λ z. z.1) last ∙ ap (λ z. rest z.1) me;
    }

pub returns-clause-cleared : goal.returns-clause-cleared
returns-clause-cleared g c =
    let key = sym c.args.self.now.key in
    let lent = c.compare_exchange.ensures.2 c.args.self.now.table.shared.key (c.requires.idle.plan ∙ ap Some key) c.args.c c.args.i refl refl in
    let position = sym (c.slot_of-at.ensures ∙ ap (λ p. edge_slot (callees_in p) c.args.c c.args.i) key) in
    let out = lent.1 ∙ ap (λ n. (lent_edge c.args.seat.now.me.0 c.args.c c.args.i, (n, Copied lent.0) ∷ c.args.seat.now.me.1)) position in
    let me = exchanged c.compare_exchange.new.seat.me c.exchange-slot.new.seat.me (lent_edge c.args.seat.now.me.0 c.args.c c.args.i) c.slot_of-at.result
    (Copied lent.0) Cleared c.args.seat.now.me.1 c.requires.idle.none out c.exchange-slot.ensures.3 in
    ap (λ z. z.0) (c.load.ensures.2 c.args.c c.args.i (ap (λ z. z.0.out) me)) ∙ ap (λ z. cleared z.0 c.args.c c.args.i) me

pub returns-clause-copied : goal.returns-clause-copied
returns-clause-copied g c =
    let key = sym c.args.self.now.key in
    let lent = c.compare_exchange.ensures.2 c.args.self.now.table.shared.key (c.requires.idle.plan ∙ ap Some key) c.args.c c.args.i refl refl in
    let position = sym (c.slot_of-at.ensures ∙ ap (λ p. edge_slot (callees_in p) c.args.c c.args.i) key) in
    let out = lent.1 ∙ ap (λ n. (lent_edge c.args.seat.now.me.0 c.args.c c.args.i, (n, Copied lent.0) ∷ c.args.seat.now.me.1)) position in
    let was = came-out c.compare_exchange.new.seat.me (lent_edge c.args.seat.now.me.0 c.args.c c.args.i) c.slot_of-at.result (Copied lent.0) c.exchange-slot.result c.args.seat.now.me.1 out c.exchange-slot.ensures.2 in
    subst (λ o. g.P.Pieces.copied c.args.self.now.plan.pieces (callee (callees_in c.args.self.now.plan) c.args.c c.args.i) o) (copied-same (sym was ∙ c.in-Copied.is))
    (subst (λ p. g.P.Pieces.copied p.pieces (callee (callees_in p) c.args.c c.args.i) lent.0) c.args.self.now.key lent.2)
