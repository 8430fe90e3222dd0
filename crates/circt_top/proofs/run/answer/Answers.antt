-- What goes out is the answer, with the files that the work names or without any.
use Rattle.std.proofs.Common.{inl, inr, map}
use Rattle.command_line.specs.Line.{files_before}
use Rattle.command_line.specs.Invocations.{command_of}
use Rattle.circt_top.specs.Outcome.{verdict_of, texts_of, files_of}
use Rattle.circt_top.specs.Stops.{names_in}
use Rattle.circt_top.specs.Delivery.{OnFault}
use Rattle.circt_top.proofs.Answers.{files_named}
use Rattle.circt_top.proofs.Stops.{fault_among}
use Rattle.circt_top.proofs.run.answer.Goals as goal

pub returns-in-Whole-clause-done : goal.returns-in-Whole-clause-done
returns-in-Whole-clause-done g c = rw (c.with.ensures, c.status_of.ensures) (texts_of c.in-Ok.made, rw c.output_name.ensures at c.in-Whole.ensures.whole, c.in-Ok.ensures)

pub returns-in-Whole-clause-written : goal.returns-in-Whole-clause-written
returns-in-Whole-clause-written g c =
    let work = (command_of c.args.invocation.now).work in
    rw (c.with.ensures, c.status_of.ensures)
    (names_in (files_of c.in-Ok.made.proof), files_named work c.args.sources.now (verdict_of c.in-Ok.made.finding) (texts_of c.in-Ok.made) c.in-Ok.ensures, rw c.output_name.ensures at c.in-Whole.ensures.written)

pub returns-in-Fault-clause-target : goal.returns-in-Fault-clause-target
returns-in-Fault-clause-target g c =
    let work = (command_of c.args.invocation.now).work in
    (names_in (files_of c.in-Ok.made.proof), files_named work c.args.sources.now (verdict_of c.in-Ok.made.finding) (texts_of c.in-Ok.made) c.in-Ok.ensures, rw c.output_name.ensures at c.in-Fault.ensures.failed)

pub returns-in-Fault-clause-written : goal.returns-in-Fault-clause-written
returns-in-Fault-clause-written g c =
    let work = (command_of c.args.invocation.now).work in
    (_, (names_in (files_of c.in-Ok.made.proof), files_named work c.args.sources.now (verdict_of c.in-Ok.made.finding) (texts_of c.in-Ok.made) c.in-Ok.ensures, rw c.output_name.ensures at c.in-Fault.ensures.failed))

pub returns-in-Fault-clause-prefix : goal.returns-in-Fault-clause-prefix
returns-in-Fault-clause-prefix g c = (verdict_of c.in-Ok.made.finding, texts_of c.in-Ok.made, rw c.output_name.ensures at c.in-Fault.ensures.prefix, c.in-Ok.ensures)

pub returns-in-Fault-clause-write_fault : goal.returns-in-Fault-clause-write_fault
returns-in-Fault-clause-write_fault g c =
    let work = (command_of c.args.invocation.now).work in
    fault_among (names_in (files_of c.in-Ok.made.proof)) (files_before work) _ _ _ _ _
    (files_named work c.args.sources.now (verdict_of c.in-Ok.made.finding) (texts_of c.in-Ok.made) c.in-Ok.ensures) (rw c.output_name.ensures at c.in-Fault.ensures.fault)

pub returns-in-Ok-clause-unwritten : goal.returns-in-Ok-clause-unwritten
returns-in-Ok-clause-unwritten g c =
    let nothing = c.in-NoMemory.ensures.nothing in
    rw c.with-in-NoMemory.ensures (nothing.0, inr (verdict_of c.in-Ok.made.finding, texts_of c.in-Ok.made, nothing.1, c.in-Ok.ensures))

pub returns-in-Ok-clause-written : goal.returns-in-Ok-clause-written
returns-in-Ok-clause-written g c =
    let work = (command_of c.args.invocation.now).work in
    let starved = c.in-NoMemory.ensures.starved in
    rw c.with-in-NoMemory.ensures
    (inr (starved.0, (names_in (files_of c.in-Ok.made.proof), files_named work c.args.sources.now (verdict_of c.in-Ok.made.finding) (texts_of c.in-Ok.made) c.in-Ok.ensures, rw c.output_name.ensures at starved.1)))
