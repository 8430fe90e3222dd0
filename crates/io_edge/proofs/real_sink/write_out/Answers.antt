-- Each turn writes a prefix of what is left.
use Rattle.std.proofs.Common.{take, [], refl, sym, arith}
use Rattle.std.proofs.lemmas.List.{take-append-drop}
use Rattle.io_edge.proofs.Sending.{HasSent-more, AppendsPrefix-rest, AppendsPrefix-none, AppendsPrefix-piece}
use Rattle.io_edge.proofs.real_sink.write_out.Goals as goal

pub writes-preserved : goal.writes-preserved
writes-preserved g c = record {
  bytes = HasSent-more (take c.in-Ok.count c.writes.rest.now) c.split_at.result.1.now c.writes.invariant.bytes (rw c.split_at.ensures.back (sym (take-append-drop c.in-Ok.count c.writes.rest.now))) c.in-Ok.ensures.bytes;
  kept = omega (arith, c.write_some.ensures.cause.kept, c.writes.invariant.kept);
}

pub returns-in-Err-clause-err : goal.returns-in-Err-clause-err
returns-in-Err-clause-err g c =
    AppendsPrefix-rest c.writes.invariant.bytes (AppendsPrefix-piece [] c.writes.rest.now refl (λ held known. (0, omega arith, c.in-Err.ensures.err held known)))

pub returns-clause-err : goal.returns-clause-err
returns-clause-err g c = AppendsPrefix-rest c.writes.invariant.bytes (AppendsPrefix-none _ c.writes.rest.now)
