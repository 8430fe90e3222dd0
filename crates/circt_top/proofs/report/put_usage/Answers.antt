-- The line goes out in three pieces.
use Rattle.std.proofs.Common.{◌≡◌, ◌++◌, ◌∙◌, ap, sym, refl, codes, is_ok, true, false}
use Rattle.command_line.specs.Usage.{usage_text, offset_of}
use Rattle.diag.proofs.Sending.{AppendsPrefix-then, AppendsPrefix-stop, Appends-last, AppendsPrefix-last}
use Rattle.diag.proofs.Puts.{pieces_out, both_out, start_out}
use Rattle.circt_top.specs.Answer.{usage_line, usage_end}
use Rattle.circt_top.proofs.report.put_usage.Goals as goal

pub returns-in-Err-clause-err : goal.returns-in-Err-clause-err
returns-in-Err-clause-err g c =
    AppendsPrefix-stop _ _ (codes "circt: usage: ") (usage_text c.args.kind ++ usage_end (offset_of c.args.kind)) _ refl c.in-Err.ensures.err

pub returns-in-Err-put_all-clause-err : goal.returns-in-Err-put_all-clause-err
returns-in-Err-put_all-clause-err g c =
    let end = usage_end (offset_of c.args.kind) in
    let whole : usage_line c.args.kind ≡ codes "circt: usage: " ++ (c.text.result.now ++ end) = sym (ap (λ t. codes "circt: usage: " ++ (t ++ end)) c.text.ensures) in
    AppendsPrefix-then _ _ _ (codes "circt: usage: ") (c.text.result.now ++ end) (usage_line c.args.kind) whole c.in-Ok.ensures.ok
    (AppendsPrefix-stop _ _ c.text.result.now end _ refl c.in-Err-put_all.ensures.err)

pub returns-clause-ok : goal.returns-clause-ok
returns-clause-ok g c =
    let end = usage_end c.offset.result in
    let whole : usage_line c.args.kind ≡ codes "circt: usage: " ++ (c.text.result.now ++ end) =
    sym (ap (λ t. codes "circt: usage: " ++ (t ++ end)) c.text.ensures ∙ ap (λ o. codes "circt: usage: " ++ (usage_text c.args.kind ++ usage_end o)) c.offset.ensures) in
    Appends-last _ _ _ (codes "circt: usage: ") (c.text.result.now ++ end) (usage_line c.args.kind) c.put_usage_end.result whole c.in-Ok.ensures.ok
    (Appends-last _ _ _ c.text.result.now end _ c.put_usage_end.result refl c.in-Ok-put_all.ensures.ok c.put_usage_end.ensures.ok)

pub returns-clause-err : goal.returns-clause-err
returns-clause-err g c =
    let end = usage_end c.offset.result in
    let whole : usage_line c.args.kind ≡ codes "circt: usage: " ++ (c.text.result.now ++ end) =
    sym (ap (λ t. codes "circt: usage: " ++ (t ++ end)) c.text.ensures ∙ ap (λ o. codes "circt: usage: " ++ (usage_text c.args.kind ++ usage_end o)) c.offset.ensures) in
    AppendsPrefix-last _ _ _ (codes "circt: usage: ") (c.text.result.now ++ end) (usage_line c.args.kind) c.put_usage_end.result whole c.in-Ok.ensures.ok
    (AppendsPrefix-last _ _ _ c.text.result.now end _ c.put_usage_end.result refl c.in-Ok-put_all.ensures.ok c.put_usage_end.ensures.err)

pub returns-in-Err-clause-puts : goal.returns-in-Err-clause-puts
returns-in-Err-clause-puts g c =
    start_out g.E.Sink.puts c.args.err.now c.put_all.new.sink (codes "circt: usage: ") (usage_text c.args.kind ++ usage_end (offset_of c.args.kind)) _ refl
    (pieces_out g.E.Sink.puts c.args.err.now c.put_all.new.sink (codes "circt: usage: ") false c.in-Err.ensures.pieces)

pub returns-in-Err-put_all-clause-puts : goal.returns-in-Err-put_all-clause-puts
returns-in-Err-put_all-clause-puts g c =
    let end = usage_end (offset_of c.args.kind) in
    let whole : usage_line c.args.kind ≡ codes "circt: usage: " ++ (c.text.result.now ++ end) = sym (ap (λ t. codes "circt: usage: " ++ (t ++ end)) c.text.ensures) in
    both_out g.E.Sink.puts c.args.err.now c.put_all.new.sink c.put_all-2.new.sink (codes "circt: usage: ") (c.text.result.now ++ end) (usage_line c.args.kind) false whole
    (pieces_out g.E.Sink.puts c.args.err.now c.put_all.new.sink (codes "circt: usage: ") true c.in-Ok.ensures.pieces)
    (start_out g.E.Sink.puts c.put_all.new.sink c.put_all-2.new.sink c.text.result.now end _ refl
    (pieces_out g.E.Sink.puts c.put_all.new.sink c.put_all-2.new.sink c.text.result.now false c.in-Err-put_all.ensures.pieces))

pub returns-clause-puts : goal.returns-clause-puts
returns-clause-puts g c =
    let end = usage_end c.offset.result in
    let whole : usage_line c.args.kind ≡ codes "circt: usage: " ++ (c.text.result.now ++ end) =
    sym (ap (λ t. codes "circt: usage: " ++ (t ++ end)) c.text.ensures ∙ ap (λ o. codes "circt: usage: " ++ (usage_text c.args.kind ++ usage_end o)) c.offset.ensures) in
    let last = is_ok c.put_usage_end.result in
    both_out g.E.Sink.puts c.args.err.now c.put_all.new.sink c.put_usage_end.new.err (codes "circt: usage: ") (c.text.result.now ++ end) (usage_line c.args.kind) last whole
    (pieces_out g.E.Sink.puts c.args.err.now c.put_all.new.sink (codes "circt: usage: ") true c.in-Ok.ensures.pieces)
    (both_out g.E.Sink.puts c.put_all.new.sink c.put_all-2.new.sink c.put_usage_end.new.err c.text.result.now end _ last refl
    (pieces_out g.E.Sink.puts c.put_all.new.sink c.put_all-2.new.sink c.text.result.now true c.in-Ok-put_all.ensures.pieces) c.put_usage_end.ensures.puts)
