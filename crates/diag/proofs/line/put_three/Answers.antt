use Rattle.std.proofs.Common.{◌++◌, is_ok, true, false, refl}
use Rattle.diag.proofs.Sending.{AppendsPrefix-then, AppendsPrefix-stop, Appends-last, AppendsPrefix-last}
use Rattle.diag.proofs.Puts.{pieces_out, both_out, start_out}
use Rattle.diag.proofs.line.put_three.Goals as goal

pub returns-in-Err-put_all-clause-err : goal.returns-in-Err-put_all-clause-err
returns-in-Err-put_all-clause-err g c =
    AppendsPrefix-then _ _ _ c.args.first.now (c.args.second.now ++ c.args.third.now) _ refl c.in-Ok.ensures.ok
    (AppendsPrefix-stop _ _ c.args.second.now c.args.third.now _ refl c.in-Err-put_all.ensures.err)

pub returns-clause-ok : goal.returns-clause-ok
returns-clause-ok g c =
    Appends-last _ _ _ c.args.first.now (c.args.second.now ++ c.args.third.now) _ c.put_all-3.result refl c.in-Ok.ensures.ok
    (Appends-last _ _ _ c.args.second.now c.args.third.now _ c.put_all-3.result refl c.in-Ok-put_all.ensures.ok c.put_all-3.ensures.ok)

pub returns-clause-err : goal.returns-clause-err
returns-clause-err g c =
    AppendsPrefix-last _ _ _ c.args.first.now (c.args.second.now ++ c.args.third.now) _ c.put_all-3.result refl c.in-Ok.ensures.ok
    (AppendsPrefix-last _ _ _ c.args.second.now c.args.third.now _ c.put_all-3.result refl c.in-Ok-put_all.ensures.ok c.put_all-3.ensures.err)

pub returns-in-Err-clause-puts : goal.returns-in-Err-clause-puts
returns-in-Err-clause-puts g c =
    start_out g.S.Sink.puts c.args.sink.now c.put_all.new.sink c.args.first.now (c.args.second.now ++ c.args.third.now) _ refl (pieces_out g.S.Sink.puts c.args.sink.now c.put_all.new.sink c.args.first.now false c.in-Err.ensures.pieces)

pub returns-in-Err-put_all-clause-puts : goal.returns-in-Err-put_all-clause-puts
returns-in-Err-put_all-clause-puts g c =
    both_out g.S.Sink.puts c.args.sink.now c.put_all.new.sink c.put_all-2.new.sink c.args.first.now (c.args.second.now ++ c.args.third.now) _ false refl
    (pieces_out g.S.Sink.puts c.args.sink.now c.put_all.new.sink c.args.first.now true c.in-Ok.ensures.pieces)
    (start_out g.S.Sink.puts c.put_all.new.sink c.put_all-2.new.sink c.args.second.now c.args.third.now _ refl (pieces_out g.S.Sink.puts c.put_all.new.sink c.put_all-2.new.sink c.args.second.now false c.in-Err-put_all.ensures.pieces))

pub returns-clause-puts : goal.returns-clause-puts
returns-clause-puts g c =
    both_out g.S.Sink.puts c.args.sink.now c.put_all.new.sink c.put_all-3.new.sink c.args.first.now (c.args.second.now ++ c.args.third.now) _ (is_ok c.put_all-3.result) refl
    (pieces_out g.S.Sink.puts c.args.sink.now c.put_all.new.sink c.args.first.now true c.in-Ok.ensures.pieces)
    (both_out g.S.Sink.puts c.put_all.new.sink c.put_all-2.new.sink c.put_all-3.new.sink c.args.second.now c.args.third.now _ (is_ok c.put_all-3.result) refl
    (pieces_out g.S.Sink.puts c.put_all.new.sink c.put_all-2.new.sink c.args.second.now true c.in-Ok-put_all.ensures.pieces)
    (pieces_out g.S.Sink.puts c.put_all-2.new.sink c.put_all-3.new.sink c.args.third.now (is_ok c.put_all-3.result) c.put_all-3.ensures.pieces))
