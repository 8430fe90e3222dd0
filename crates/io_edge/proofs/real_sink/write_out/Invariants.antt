use Rattle.std.proofs.Common.{◌≤◌}
use Rattle.io_edge.proofs.Sending.{HasSent}
use Rattle.io_edge.proofs.real_sink.write_out.Given as goal

abbrev pub invariant-writes : goal.invariant-writes
invariant-writes g l = record {
  bytes : HasSent (g.W.Write.contents l.fn.writer) (g.W.Write.contents l.writer) l.fn.bytes l.rest;
  kept : l.fn.faults ≤ l.faults;
}
