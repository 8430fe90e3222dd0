use Rattle.std.proofs.Common.{◌≡◌, ◌<◌, Some, length, ap, sym, subst, ◌∙◌, arith}
use Rattle.std.proofs.lemmas.List.{length-map}
use mathlib.Core.Option.{some-injective}
use Rattle.std.specs.Slots.{slots_items}
use Rattle.atomic_table.specs.Table.{Final, Seen}
use Rattle.shared_schedule.specs.declared.slot.Slot.TheVariants.{Made}
use Rattle.shared_schedule.specs.Views.{callees_in}
use Rattle.shared_schedule.specs.Rule.{Rule}
use Rattle.shared_schedule.specs.Seats.{IsFinished}
use Rattle.shared_schedule.proofs.Ending.{ends}
use Rattle.shared_schedule.proofs.FirstTable.{if-ok, made-same}
use Rattle.shared_schedule.proofs.shared.Shared.into_bodies.Goals as goal

pub made_bodies-bodies-requires-clause-made : goal.made_bodies-bodies-requires-clause-made
made_bodies-bodies-requires-clause-made g c = λ m within.
    let self = c.args.self in
    let key = sym self.key in
    let size : length (callees_in self.plan) ≡ length self.plan.callees.items = length-map self.plan.callees.items (λ row. row.items) in
    let below : m < length (callees_in self.plan) = omega arith in
    let body = ends g.P.Pieces.first g.P.Pieces.finished g.P.Pieces.copied self.table.shared.key c.args.seat.me.0 (slots_items c.close_with-closed.result.words)
    (slots_items c.close_with-closed.result.slots) (c.requires.idle.plan ∙ ap Some key) c.requires.idle.out c.requires.passed c.requires.all
    (subst (λ p. IsFinished (callees_in p) c.args.seat.me.0) key c.requires.finished)
    (subst (λ n. Final (Seen (Rule g.P.Pieces.first g.P.Pieces.finished g.P.Pieces.copied self.table.shared.key) n c.args.seat.me.0) (slots_items c.close_with-closed.result.words)
    (slots_items c.close_with-closed.result.slots)) c.requires.first c.close_with-closed.ensures.values.2)
    m (subst (λ p. m < length (callees_in p)) key below) in
    (body.0, body.1)

pub returns-clause-finished : goal.returns-clause-finished
returns-clause-finished g c =
    let self = c.args.self in
    let key = sym self.key in
    let size : length (callees_in self.plan) ≡ length self.plan.callees.items = length-map self.plan.callees.items (λ row. row.items) in
    if-ok c.made_bodies-bodies.result (λ v each m b at.
    let e = each m b at in
    let inside : m < c.len-modules.result = e.0 in
    let below : m < length (callees_in self.plan) = omega arith in
    let body = ends g.P.Pieces.first g.P.Pieces.finished g.P.Pieces.copied self.table.shared.key c.args.seat.me.0 (slots_items c.close_with-closed.result.words)
    (slots_items c.close_with-closed.result.slots) (c.requires.idle.plan ∙ ap Some key) c.requires.idle.out c.requires.passed c.requires.all
    (subst (λ p. IsFinished (callees_in p) c.args.seat.me.0) key c.requires.finished)
    (subst (λ n. Final (Seen (Rule g.P.Pieces.first g.P.Pieces.finished g.P.Pieces.copied self.table.shared.key) n c.args.seat.me.0) (slots_items c.close_with-closed.result.words)
    (slots_items c.close_with-closed.result.slots)) c.requires.first c.close_with-closed.ensures.values.2)
    m (subst (λ p. m < length (callees_in p)) key below) in
    subst (λ z. g.P.Pieces.finished self.plan.pieces m z) (made-same (some-injective (Made body.0) (Made b) (sym body.1 ∙ e.1))) (subst (λ p. g.P.Pieces.finished p.pieces m body.0) self.key body.2))
    c.made_bodies-bodies.ensures.bodies

pub returns-clause-once : goal.returns-clause-once
returns-clause-once g c =
    let self = c.args.self in
    let key = sym self.key in
    if-ok c.made_bodies-bodies.result (λ v len m below.
    let body = ends g.P.Pieces.first g.P.Pieces.finished g.P.Pieces.copied self.table.shared.key c.args.seat.me.0 (slots_items c.close_with-closed.result.words)
    (slots_items c.close_with-closed.result.slots) (c.requires.idle.plan ∙ ap Some key) c.requires.idle.out c.requires.passed c.requires.all
    (subst (λ p. IsFinished (callees_in p) c.args.seat.me.0) key c.requires.finished)
    (subst (λ n. Final (Seen (Rule g.P.Pieces.first g.P.Pieces.finished g.P.Pieces.copied self.table.shared.key) n c.args.seat.me.0) (slots_items c.close_with-closed.result.words)
    (slots_items c.close_with-closed.result.slots)) c.requires.first c.close_with-closed.ensures.values.2)
    m (subst (λ p. m < length (callees_in p)) key below) in
    body.3)
    c.made_bodies-bodies.ensures.len
