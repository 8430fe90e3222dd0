-- Each turn sends the next piece.
use Rattle.std.proofs.Common.{◌≡◌, ◌<◌, length, sym, arith, rules, length-drop}
use Rattle.std.proofs.lemmas.List.{nil_from_length, take-append-drop}
use Rattle.io_edge.proofs.Sending.{IsSending-more, AppendsPrefix-rest, AppendsPrefix-piece, Sends-fails, Sends-ends}
use Rattle.io_edge.proofs.sinks.put_all.Goals as goal

pub loop-rest-smaller : goal.loop-rest-smaller
loop-rest-smaller g c =
    let some : 0 < length c.loop-rest.rest.now = search (rules, c.loop-rest-test.ensures)
    in rw (c.first_piece.ensures.others) (omega (arith, length-drop 4096 c.loop-rest.rest.now, some))

pub loop-rest-preserved : goal.loop-rest-preserved
loop-rest-preserved g c =
    IsSending-more c.first_piece.result.0.now c.first_piece.result.1.now c.loop-rest.invariant (search (rules, c.loop-rest-test.ensures)) c.first_piece.ensures.piece c.first_piece.ensures.others c.in-Ok.ensures.ok c.put.ensures.cause.kept c.in-Ok.ensures.step

pub returns-in-Err-clause-err : goal.returns-in-Err-clause-err
returns-in-Err-clause-err g c =
    AppendsPrefix-rest c.loop-rest.invariant.bytes (AppendsPrefix-piece c.first_piece.result.0.now c.first_piece.result.1.now (rw (c.first_piece.ensures.piece, c.first_piece.ensures.others) (sym (take-append-drop 4096 c.loop-rest.rest.now))) c.in-Err.ensures.err)

pub returns-in-Err-clause-pieces : goal.returns-in-Err-clause-pieces
returns-in-Err-clause-pieces g c = Sends-fails c.first_piece.result.0.now c.loop-rest.invariant (search (rules, c.loop-rest-test.ensures)) c.first_piece.ensures.piece c.in-Err.ensures.step

pub returns-clause-pieces : goal.returns-clause-pieces
returns-clause-pieces g c =
    let none : length c.loop-rest.rest.now ≡ 0 = search (rules, c.loop-rest-test.ensures)
    in Sends-ends c.loop-rest.invariant (nil_from_length c.loop-rest.rest.now none)
