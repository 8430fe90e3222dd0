use Rattle.std.proofs.Common.{Some, sym, ap, ◌∙◌, arith}
use Rattle.std.proofs.lemmas.Option.{slice_get-get_or}
use Rattle.inline_pass.specs.Received.{held}
use Rattle.inline_pass.proofs.Receiving.{held_none, held_more}
use Rattle.inline_pass.proofs.received.by_number.Goals as goal

pub loop-i-init : goal.loop-i-init
loop-i-init c = held_none c.new-bodies.result c.args.numbers.now c.args.received.now c.new-bodies.ensures.empty

pub loop-i-preserved : goal.loop-i-preserved
loop-i-preserved c =
    held_more c.args.numbers.now c.args.received.now c.loop-i.i (held c.loop-i.bodies) (held c.note_body.new.bodies) c.loop-i.invariant c.index-received-i.result
    (slice_get-get_or c.args.received.now c.loop-i.i c.index-received-i.result (omega (arith, c.loop-i-test.true, c.requires)) ∙ ap Some (sym c.index-received-i.is)) c.in_ok-note_body.ensures
