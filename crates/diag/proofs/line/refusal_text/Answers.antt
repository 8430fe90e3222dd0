use Rattle.std.proofs.Common.{◌++◌, is_ok, false, refl, codes}
use Rattle.diag.specs.Line.{operation_of}
use Rattle.diag.specs.Cause.{code_of, text_of}
use Rattle.diag.proofs.Sending.{AppendsPrefix-then, AppendsPrefix-stop, Appends-last, AppendsPrefix-last}
use Rattle.diag.proofs.Puts.{both_out, start_out}
use Rattle.diag.proofs.line.refusal_text.Goals as goal

pub returns-in-Err-put_three-clause-err : goal.returns-in-Err-put_three-clause-err
returns-in-Err-put_three-clause-err g c =
    let head = c.display_name.result.now ++ (codes ":" ++ c.as_bytes-line.result.now)
    in
    let col = codes ":" ++ (c.as_bytes-col.result.now ++ codes ": error: '")
    in
    let end = (operation_of c.args.r.now.op c.args.source.now ++ (codes "' " ++ code_of c.args.r.now.cause)) ++ (codes ": " ++ (text_of c.args.r.now.cause ++ codes "\n"))
    in
    AppendsPrefix-then _ _ _ head (col ++ end) _ (cc) c.in-Ok.ensures.ok (AppendsPrefix-stop _ _ col end _ refl c.in-Err-put_three.ensures.err)

pub returns-in-Err-put_three-2-clause-err : goal.returns-in-Err-put_three-2-clause-err
returns-in-Err-put_three-2-clause-err g c =
    let head = c.display_name.result.now ++ (codes ":" ++ c.as_bytes-line.result.now)
    in
    let col = codes ":" ++ (c.as_bytes-col.result.now ++ codes ": error: '")
    in
    let operation = c.operation.result.now ++ (codes "' " ++ c.code.result.now)
    in
    let end = codes ": " ++ (text_of c.args.r.now.cause ++ codes "\n")
    in
    AppendsPrefix-then _ _ _ head (col ++ (operation ++ end)) _ (cc) c.in-Ok.ensures.ok
    (AppendsPrefix-then _ _ _ col (operation ++ end) _ refl c.in-Ok-put_three.ensures.ok
    (AppendsPrefix-stop _ _ operation end _ refl c.in-Err-put_three-2.ensures.err))

pub returns-clause-ok : goal.returns-clause-ok
returns-clause-ok g c =
    let head = c.display_name.result.now ++ (codes ":" ++ c.as_bytes-line.result.now)
    in
    let col = codes ":" ++ (c.as_bytes-col.result.now ++ codes ": error: '")
    in
    let operation = c.operation.result.now ++ (codes "' " ++ c.code.result.now)
    in
    let end = codes ": " ++ (c.text.result.now ++ codes "\n")
    in
    Appends-last _ _ _ head (col ++ (operation ++ end)) _ c.put_three-4.result (cc) c.in-Ok.ensures.ok
    (Appends-last _ _ _ col (operation ++ end) _ c.put_three-4.result refl c.in-Ok-put_three.ensures.ok
    (Appends-last _ _ _ operation end _ c.put_three-4.result refl c.in-Ok-put_three-2.ensures.ok c.put_three-4.ensures.ok))

pub returns-clause-err : goal.returns-clause-err
returns-clause-err g c =
    let head = c.display_name.result.now ++ (codes ":" ++ c.as_bytes-line.result.now)
    in
    let col = codes ":" ++ (c.as_bytes-col.result.now ++ codes ": error: '")
    in
    let operation = c.operation.result.now ++ (codes "' " ++ c.code.result.now)
    in
    let end = codes ": " ++ (c.text.result.now ++ codes "\n")
    in
    AppendsPrefix-last _ _ _ head (col ++ (operation ++ end)) _ c.put_three-4.result (cc) c.in-Ok.ensures.ok
    (AppendsPrefix-last _ _ _ col (operation ++ end) _ c.put_three-4.result refl c.in-Ok-put_three.ensures.ok
    (AppendsPrefix-last _ _ _ operation end _ c.put_three-4.result refl c.in-Ok-put_three-2.ensures.ok c.put_three-4.ensures.err))

pub returns-in-Err-clause-puts : goal.returns-in-Err-clause-puts
returns-in-Err-clause-puts g c =
    let head = c.display_name.result.now ++ (codes ":" ++ c.as_bytes-line.result.now)
    in
    let end = (codes ":" ++ (c.as_bytes-col.result.now ++ codes ": error: '"))
    ++ ((operation_of c.args.r.now.op c.args.source.now ++ (codes "' " ++ code_of c.args.r.now.cause)) ++ (codes ": " ++ (text_of c.args.r.now.cause ++ codes "\n")))
    in
    start_out g.S.Sink.puts c.args.sink.now c.put_three.new.sink head end _ (cc) c.in-Err.ensures.puts

pub returns-in-Err-put_three-clause-puts : goal.returns-in-Err-put_three-clause-puts
returns-in-Err-put_three-clause-puts g c =
    let head = c.display_name.result.now ++ (codes ":" ++ c.as_bytes-line.result.now)
    in
    let col = codes ":" ++ (c.as_bytes-col.result.now ++ codes ": error: '")
    in
    let end = (operation_of c.args.r.now.op c.args.source.now ++ (codes "' " ++ code_of c.args.r.now.cause)) ++ (codes ": " ++ (text_of c.args.r.now.cause ++ codes "\n"))
    in
    both_out g.S.Sink.puts c.args.sink.now c.put_three.new.sink c.put_three-2.new.sink head (col ++ end) _ false (cc) c.in-Ok.ensures.puts
    (start_out g.S.Sink.puts c.put_three.new.sink c.put_three-2.new.sink col end _ refl c.in-Err-put_three.ensures.puts)

pub returns-in-Err-put_three-2-clause-puts : goal.returns-in-Err-put_three-2-clause-puts
returns-in-Err-put_three-2-clause-puts g c =
    let head = c.display_name.result.now ++ (codes ":" ++ c.as_bytes-line.result.now)
    in
    let col = codes ":" ++ (c.as_bytes-col.result.now ++ codes ": error: '")
    in
    let operation = c.operation.result.now ++ (codes "' " ++ c.code.result.now)
    in
    let end = codes ": " ++ (text_of c.args.r.now.cause ++ codes "\n")
    in
    both_out g.S.Sink.puts c.args.sink.now c.put_three.new.sink c.put_three-3.new.sink head (col ++ (operation ++ end)) _ false (cc) c.in-Ok.ensures.puts
    (both_out g.S.Sink.puts c.put_three.new.sink c.put_three-2.new.sink c.put_three-3.new.sink col (operation ++ end) _ false refl c.in-Ok-put_three.ensures.puts
    (start_out g.S.Sink.puts c.put_three-2.new.sink c.put_three-3.new.sink operation end _ refl c.in-Err-put_three-2.ensures.puts))

pub returns-clause-puts : goal.returns-clause-puts
returns-clause-puts g c =
    let head = c.display_name.result.now ++ (codes ":" ++ c.as_bytes-line.result.now)
    in
    let col = codes ":" ++ (c.as_bytes-col.result.now ++ codes ": error: '")
    in
    let operation = c.operation.result.now ++ (codes "' " ++ c.code.result.now)
    in
    let end = codes ": " ++ (c.text.result.now ++ codes "\n")
    in
    let last = is_ok c.put_three-4.result
    in
    both_out g.S.Sink.puts c.args.sink.now c.put_three.new.sink c.put_three-4.new.sink head (col ++ (operation ++ end)) _ last (cc) c.in-Ok.ensures.puts
    (both_out g.S.Sink.puts c.put_three.new.sink c.put_three-2.new.sink c.put_three-4.new.sink col (operation ++ end) _ last refl c.in-Ok-put_three.ensures.puts
    (both_out g.S.Sink.puts c.put_three-2.new.sink c.put_three-3.new.sink c.put_three-4.new.sink operation end _ last refl c.in-Ok-put_three-2.ensures.puts c.put_three-4.ensures.puts))
