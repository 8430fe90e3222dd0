-- Each end has its line.
use Rattle.std.proofs.Common.{is_ok, codes, [], inl, inr}
use Rattle.diag.proofs.Puts.{pieces_out}
use Rattle.circt_top.proofs.Reported.{memory_piece}
use Rattle.circt_top.proofs.report.put_line.Goals as goal

pub returns-in-Usage-clause-ok : goal.returns-in-Usage-clause-ok
returns-in-Usage-clause-ok g c = rw c.in-Usage.is c.put_usage.ensures.ok

pub returns-in-Usage-clause-err : goal.returns-in-Usage-clause-err
returns-in-Usage-clause-err g c = rw c.in-Usage.is c.put_usage.ensures.err

pub returns-in-ReadFault-clause-ok : goal.returns-in-ReadFault-clause-ok
returns-in-ReadFault-clause-ok g c = rw (c.in-ReadFault.is, ← c.as_bytes.ensures.value, ← c.display_name-name.ensures) c.put_three.ensures.ok

pub returns-in-WriteFault-clause-ok : goal.returns-in-WriteFault-clause-ok
returns-in-WriteFault-clause-ok g c = rw (c.in-WriteFault.is, ← c.shown_output-name.ensures) c.put_three-in-WriteFault.ensures.ok

pub returns-in-NoMemory-clause-ok : goal.returns-in-NoMemory-clause-ok
returns-in-NoMemory-clause-ok g c = rw c.in-NoMemory.is c.put_all.ensures.ok

pub returns-in-Usage-clause-puts : goal.returns-in-Usage-clause-puts
returns-in-Usage-clause-puts g c = rw c.in-Usage.is c.put_usage.ensures.puts

pub returns-in-ReadFault-clause-puts : goal.returns-in-ReadFault-clause-puts
returns-in-ReadFault-clause-puts g c = rw (c.in-ReadFault.is, ← c.as_bytes.ensures.value, ← c.display_name-name.ensures) c.put_three.ensures.puts

pub returns-in-WriteFault-clause-puts : goal.returns-in-WriteFault-clause-puts
returns-in-WriteFault-clause-puts g c = rw (c.in-WriteFault.is, ← c.shown_output-name.ensures) c.put_three-in-WriteFault.ensures.puts

pub returns-in-NoMemory-clause-puts : goal.returns-in-NoMemory-clause-puts
returns-in-NoMemory-clause-puts g c =
    rw c.in-NoMemory.is (pieces_out g.E.Sink.puts c.args.err.now c.put_all.new.sink (codes "circt: out of memory\n") (is_ok c.put_all.result) c.put_all.ensures.pieces)

pub returns-in-Done-clause-puts : goal.returns-in-Done-clause-puts
returns-in-Done-clause-puts g c =
    let out = pieces_out g.E.Sink.puts c.args.err.now c.put_all-in-Done.new.sink [] (is_ok c.put_all-in-Done.result) c.put_all-in-Done.ensures.pieces in
    elim c.in-Done.is [ inl e ↦ rw e out | inr x ↦ elim x [ inl y ↦ rw y.1 out | inr y ↦ rw y.1 out ] ]

pub returns-in-Done-clause-at_once : goal.returns-in-Done-clause-at_once
returns-in-Done-clause-at_once g c = elim c.in-Done.is [ inl e ↦ rw e tt | inr x ↦ elim x [ inl y ↦ rw y.1 tt | inr y ↦ rw y.1 tt ] ]

pub returns-in-Refused-clause-at_once : goal.returns-in-Refused-clause-at_once
returns-in-Refused-clause-at_once g c = rw c.in-Refused.is tt

pub returns-in-Usage-clause-at_once : goal.returns-in-Usage-clause-at_once
returns-in-Usage-clause-at_once g c = rw c.in-Usage.is tt

pub returns-in-ReadFault-clause-at_once : goal.returns-in-ReadFault-clause-at_once
returns-in-ReadFault-clause-at_once g c = rw c.in-ReadFault.is tt

pub returns-in-WriteFault-clause-at_once : goal.returns-in-WriteFault-clause-at_once
returns-in-WriteFault-clause-at_once g c = rw c.in-WriteFault.is tt

pub returns-in-NoMemory-clause-at_once : goal.returns-in-NoMemory-clause-at_once
returns-in-NoMemory-clause-at_once g c = rw c.in-NoMemory.is (rw memory_piece at c.put_all.ensures.pieces)
