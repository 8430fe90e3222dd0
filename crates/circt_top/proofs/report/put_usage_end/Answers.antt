-- An offset is sent in decimal.
use Rattle.std.proofs.Common.{is_ok, codes}
use Rattle.diag.proofs.Puts.{pieces_out}
use Rattle.circt_top.proofs.report.put_usage_end.Goals as goal

pub returns-in-Some-clause-puts : goal.returns-in-Some-clause-puts
returns-in-Some-clause-puts g c = rw (c.in-Some.is, ← c.format.ensures.text, ← c.as_bytes.ensures.value) c.put_three.ensures.puts

pub returns-in-None-clause-puts : goal.returns-in-None-clause-puts
returns-in-None-clause-puts g c = rw c.in-None.is (pieces_out g.E.Sink.puts c.args.err.now c.put_all.new.sink (codes "\n") (is_ok c.put_all.result) c.put_all.ensures.pieces)

pub returns-in-Some-clause-ok : goal.returns-in-Some-clause-ok
returns-in-Some-clause-ok g c = rw (c.in-Some.is, ← c.format.ensures.text, ← c.as_bytes.ensures.value) c.put_three.ensures.ok
