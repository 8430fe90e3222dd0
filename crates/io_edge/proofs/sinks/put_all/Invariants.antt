use Rattle.std.proofs.Common.{length}
use Rattle.io_edge.proofs.Sending.{IsSending}
use Rattle.io_edge.proofs.sinks.put_all.Given as goal

abbrev pub invariant-loop-rest : goal.invariant-loop-rest
invariant-loop-rest g l = IsSending g.K.Sink.told g.K.Sink.faults g.K.Sink.puts l.fn.sink l.sink l.fn.bytes l.rest

abbrev pub decreases-loop-rest : goal.decreases-loop-rest
decreases-loop-rest g l = length l.rest
