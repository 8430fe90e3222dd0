-- From the run of the command to the words; and what is left where nothing failed.
use Rattle.std.proofs.Common.{◌≡◌, map, List, Option, ℕ}
use Rattle.std.specs.Prelude.{string_bytes}
use Rattle.hw_model.specs.Types.{Name}
use Rattle.command_line.specs.Line.{Command, files_before}
use Rattle.command_line.specs.Invocations.{command_of}
use Rattle.circt_top.specs.Inputs.{IsOneMissing, IsOneRisen, ReadsThen}
use Rattle.circt_top.specs.ReadOrder.{IsFirstUnread, IsUnwrittenFrom}
use Rattle.circt_top.proofs.ReadOrder.{command_reads, stopped_reads}
use Rattle.circt_top.specs.Outcome.{Verdict, Texts, IsAnswer}
use Rattle.circt_top.specs.Outcome.Answer.{prints, refuses}
use Rattle.circt_top.specs.Delivery.{HasWriteFault}
use Rattle.circt_top.specs.Ends.{end_of, OnAnswered, OnRefused, OnReadFault, OnWriteFault, IsReadFaultOrNoMemory}
use Rattle.circt_top.specs.Answer.{IsRefusalOf, IsMadeOf, Delivers, DeliversPrefix, Starves}
use Rattle.circt_top.proofs.Completed.{stopped_ends, run_ends, refused_for, answered_for, read_fault_for, write_fault_for, unwritten_for, no_usage, complete, refusing, one_command}
use Rattle.circt_top.proofs.run.run_circt.Goals as goal

pub returns-in-Ok-clause-refused : goal.returns-in-Ok-clause-refused
returns-in-Ok-clause-refused g c =
    refused_for (map string_bytes c.args.words.now) (command_of c.in-Ok.invocation) (λ p. IsRefusalOf p (g.F.Files.files c.args.files.now)) (end_of c.run_on.result) c.in-Ok.ensures c.run_on.ensures.refused

pub returns-in-Ok-clause-refused_as_read : goal.returns-in-Ok-clause-refused_as_read
returns-in-Ok-clause-refused_as_read g c =
    refused_for (map string_bytes c.args.words.now) (command_of c.in-Ok.invocation) (λ p r. ReadsThen g.F.Files.reads g.F.Files.files c.args.files.now p.inputs (λ opened sources. IsAnswer p.work sources (refuses r)))
    (end_of c.run_on.result) c.in-Ok.ensures c.run_on.ensures.refused_as_read

pub returns-in-Err-Usage-clause-refused_as_read : goal.returns-in-Err-Usage-clause-refused_as_read
returns-in-Err-Usage-clause-refused_as_read g c = rw c.stop.ensures.status tt

pub returns-in-Err-NoMemory-clause-refused_as_read : goal.returns-in-Err-NoMemory-clause-refused_as_read
returns-in-Err-NoMemory-clause-refused_as_read g c = rw c.stop-in-Err-NoMemory.ensures.status tt

pub returns-in-Ok-clause-read_fault : goal.returns-in-Ok-clause-read_fault
returns-in-Ok-clause-read_fault g c =
    read_fault_for (map string_bytes c.args.words.now) (command_of c.in-Ok.invocation) (λ p. IsOneRisen (g.F.Files.read_faults c.args.files.now)
    (g.F.Files.read_faults c.run_on.new.files) p.inputs) (end_of c.run_on.result) c.in-Ok.ensures c.run_on.ensures.read_fault

pub returns-in-Ok-clause-write_fault : goal.returns-in-Ok-clause-write_fault
returns-in-Ok-clause-write_fault g c =
    write_fault_for (map string_bytes c.args.words.now) (command_of c.in-Ok.invocation) (λ p. HasWriteFault (files_before p.work) p.output (g.O.Sink.faults c.args.out.now) (g.O.Sink.faults c.run_on.new.out)
    (g.F.Files.write_faults c.args.files.now) (g.F.Files.write_faults c.run_on.new.files)) (end_of c.run_on.result) c.in-Ok.ensures c.run_on.ensures.write_fault

pub returns-in-Ok-clause-unwritten : goal.returns-in-Ok-clause-unwritten
returns-in-Ok-clause-unwritten g c =
    unwritten_for (map string_bytes c.args.words.now) (command_of c.in-Ok.invocation) _ _ _ (λ p. Starves g.F.Files.reads g.F.Files.writes g.F.Files.files p c.args.files.now c.run_on.new.files)
    (end_of c.run_on.result) c.in-Ok.ensures c.run_on.ensures.unwritten

pub returns-in-Ok-clause-read_once : goal.returns-in-Ok-clause-read_once
returns-in-Ok-clause-read_once g c =
    command_reads g.F.Files.reads g.F.Files.files g.F.Files.writes (map string_bytes c.args.words.now) (command_of c.in-Ok.invocation) (end_of c.run_on.result) c.args.files.now c.run_on.new.files c.in-Ok.ensures c.run_on.ensures.read_once

pub returns-in-Err-Usage-clause-read_once : goal.returns-in-Err-Usage-clause-read_once
returns-in-Err-Usage-clause-read_once g c =
    stopped_reads g.F.Files.reads g.F.Files.files g.F.Files.writes (map string_bytes c.args.words.now) (end_of c.stop.result) c.args.files.now (rw c.stop.ensures.status tt)

pub returns-in-Err-NoMemory-clause-read_once : goal.returns-in-Err-NoMemory-clause-read_once
returns-in-Err-NoMemory-clause-read_once g c =
    stopped_reads g.F.Files.reads g.F.Files.files g.F.Files.writes (map string_bytes c.args.words.now) (end_of c.stop-in-Err-NoMemory.result) c.args.files.now (rw c.stop-in-Err-NoMemory.ensures.status tt)

pub returns-in-Err-Usage-clause-silent : goal.returns-in-Err-Usage-clause-silent
returns-in-Err-Usage-clause-silent g c = rw c.stop.ensures.status tt

pub returns-in-Err-NoMemory-clause-silent : goal.returns-in-Err-NoMemory-clause-silent
returns-in-Err-NoMemory-clause-silent g c = rw c.stop-in-Err-NoMemory.ensures.status tt

pub returns-in-Ok-clause-done : goal.returns-in-Ok-clause-done
returns-in-Ok-clause-done g c =
    answered_for (map string_bytes c.args.words.now) (command_of c.in-Ok.invocation) (λ p verdict. (made : Texts)
    × ReadsThen g.F.Files.reads g.F.Files.files c.args.files.now p.inputs (λ opened sources. Delivers g.F.Files.writes g.F.Files.files g.O.Sink.puts g.O.Sink.told p.output opened c.run_on.new.files c.args.out.now c.run_on.new.out made × IsAnswer p.work sources (prints verdict made)) × IsMadeOf p (g.F.Files.files c.args.files.now) verdict made) (end_of c.run_on.result) c.in-Ok.ensures c.run_on.ensures.done

pub returns-in-Ok-clause-prefix : goal.returns-in-Ok-clause-prefix
returns-in-Ok-clause-prefix g c =
    write_fault_for (map string_bytes c.args.words.now) (command_of c.in-Ok.invocation) (λ p. (verdict : Verdict) × (made : Texts)
    × ReadsThen g.F.Files.reads g.F.Files.files c.args.files.now p.inputs (λ opened sources. DeliversPrefix g.F.Files.writes g.F.Files.files g.O.Sink.puts g.O.Sink.told p.output opened c.run_on.new.files c.args.out.now c.run_on.new.out made × IsAnswer p.work sources (prints verdict made)) × IsMadeOf p (g.F.Files.files c.args.files.now) verdict made) (end_of c.run_on.result) c.in-Ok.ensures c.run_on.ensures.prefix

pub returns-in-Ok-clause-complete : goal.returns-in-Ok-clause-complete
returns-in-Ok-clause-complete g c =
    λ p h contents are answer no_read no_write.
    complete (map string_bytes c.args.words.now) p (g.F.Files.files c.args.files.now) (IsOneRisen (g.F.Files.read_faults c.args.files.now) (g.F.Files.read_faults c.run_on.new.files) p.inputs)
    (HasWriteFault (files_before p.work) p.output (g.O.Sink.faults c.args.out.now) (g.O.Sink.faults c.run_on.new.out) (g.F.Files.write_faults c.args.files.now) (g.F.Files.write_faults c.run_on.new.files))
    (λ _ _. Unit {0}) (λ _ _. Unit {0}) h contents are (end_of c.run_on.result) (no_usage (map string_bytes c.args.words.now) (end_of c.run_on.result) c.in-Ok.ensures c.run_on.ensures.no_usage)
    (one_command (map string_bytes c.args.words.now) p (command_of c.in-Ok.invocation) (λ p. OnRefused (end_of c.run_on.result) (IsRefusalOf p (g.F.Files.files c.args.files.now))) h c.in-Ok.ensures c.run_on.ensures.refused)
    (one_command (map string_bytes c.args.words.now) p (command_of c.in-Ok.invocation) (λ p. OnReadFault (end_of c.run_on.result)
    (IsOneRisen (g.F.Files.read_faults c.args.files.now) (g.F.Files.read_faults c.run_on.new.files) p.inputs)) h c.in-Ok.ensures c.run_on.ensures.read_fault)
    (one_command (map string_bytes c.args.words.now) p (command_of c.in-Ok.invocation) (λ p. OnWriteFault (end_of c.run_on.result)
    (HasWriteFault (files_before p.work) p.output (g.O.Sink.faults c.args.out.now) (g.O.Sink.faults c.run_on.new.out) (g.F.Files.write_faults c.args.files.now)
    (g.F.Files.write_faults c.run_on.new.files))) h c.in-Ok.ensures c.run_on.ensures.write_fault)
    answer no_read no_write

pub returns-in-Ok-clause-refusing : goal.returns-in-Ok-clause-refusing
returns-in-Ok-clause-refusing g c =
    λ p h contents are outside no_read.
    refusing (map string_bytes c.args.words.now) p (g.F.Files.files c.args.files.now) (IsOneRisen (g.F.Files.read_faults c.args.files.now) (g.F.Files.read_faults c.run_on.new.files) p.inputs)
    (Unit {0}) (λ verdict made. ReadsThen g.F.Files.reads g.F.Files.files c.args.files.now p.inputs
    (λ opened sources. Delivers g.F.Files.writes g.F.Files.files g.O.Sink.puts g.O.Sink.told p.output opened c.run_on.new.files c.args.out.now c.run_on.new.out made × IsAnswer p.work sources (prints verdict made)))
    (λ verdict made. ReadsThen g.F.Files.reads g.F.Files.files c.args.files.now p.inputs (λ opened sources. DeliversPrefix g.F.Files.writes g.F.Files.files g.O.Sink.puts g.O.Sink.told p.output opened c.run_on.new.files c.args.out.now c.run_on.new.out made × IsAnswer p.work sources (prints verdict made))) h contents are (end_of c.run_on.result) (no_usage (map string_bytes c.args.words.now) (end_of c.run_on.result) c.in-Ok.ensures c.run_on.ensures.no_usage)
    (one_command (map string_bytes c.args.words.now) p (command_of c.in-Ok.invocation) (λ p. OnReadFault (end_of c.run_on.result)
    (IsOneRisen (g.F.Files.read_faults c.args.files.now) (g.F.Files.read_faults c.run_on.new.files) p.inputs)) h c.in-Ok.ensures c.run_on.ensures.read_fault)
    (one_command (map string_bytes c.args.words.now) p (command_of c.in-Ok.invocation) (λ p. OnAnswered (end_of c.run_on.result)
    (λ verdict. (made : Texts) × ReadsThen g.F.Files.reads g.F.Files.files c.args.files.now p.inputs
    (λ opened sources. Delivers g.F.Files.writes g.F.Files.files g.O.Sink.puts g.O.Sink.told p.output opened c.run_on.new.files c.args.out.now c.run_on.new.out made × IsAnswer p.work sources (prints verdict made))
    × IsMadeOf p (g.F.Files.files c.args.files.now) verdict made)) h c.in-Ok.ensures c.run_on.ensures.done)
    (one_command (map string_bytes c.args.words.now) p (command_of c.in-Ok.invocation) (λ p. OnWriteFault (end_of c.run_on.result)
    ((verdict : Verdict) × (made : Texts) × ReadsThen g.F.Files.reads g.F.Files.files c.args.files.now p.inputs
    (λ opened sources. DeliversPrefix g.F.Files.writes g.F.Files.files g.O.Sink.puts g.O.Sink.told p.output opened c.run_on.new.files c.args.out.now c.run_on.new.out made × IsAnswer p.work sources (prints verdict made))
    × IsMadeOf p (g.F.Files.files c.args.files.now) verdict made)) h c.in-Ok.ensures c.run_on.ensures.prefix)
    outside no_read

pub returns-in-Ok-clause-missing : goal.returns-in-Ok-clause-missing
returns-in-Ok-clause-missing g c =
    λ p h missing.
    one_command (map string_bytes c.args.words.now) p (command_of c.in-Ok.invocation) (λ p. IsOneMissing (g.F.Files.files c.args.files.now) p.inputs
    → IsReadFaultOrNoMemory (end_of c.run_on.result)) h c.in-Ok.ensures c.run_on.ensures.missing missing

pub returns-in-Ok-clause-report : goal.returns-in-Ok-clause-report
returns-in-Ok-clause-report g c =
    run_ends g.E.Sink.puts g.E.Sink.told g.E.Sink.faults (map string_bytes c.args.words.now)
    (IsFirstUnread g.F.Files.reads g.F.Files.files g.F.Files.read_faults c.args.files.now c.run_on.new.files)
    (IsUnwrittenFrom g.F.Files.reads g.F.Files.files g.F.Files.writes c.args.files.now c.run_on.new.files) (g.F.Files.files c.args.files.now)
    (end_of c.run_on.result) c.args.err.now c.run_on.new.err (command_of c.in-Ok.invocation) c.in-Ok.ensures c.run_on.ensures.report

pub returns-in-Err-Usage-clause-report : goal.returns-in-Err-Usage-clause-report
returns-in-Err-Usage-clause-report g c =
    let UNREAD : List Name → Name → Type 0 = IsFirstUnread g.F.Files.reads g.F.Files.files g.F.Files.read_faults c.args.files.now c.args.files.now in
    let UNWRITTEN : Command → Option Name → Type 0 = IsUnwrittenFrom g.F.Files.reads g.F.Files.files g.F.Files.writes c.args.files.now c.args.files.now in
    stopped_ends g.E.Sink.puts g.E.Sink.told g.E.Sink.faults (map string_bytes c.args.words.now) UNREAD UNWRITTEN (g.F.Files.files c.args.files.now) (end_of c.stop.result) c.args.err.now c.stop.new.err
    (rw c.stop.ensures.status tt) (rw c.stop.ensures.status c.stop.ensures.report)

pub returns-in-Err-NoMemory-clause-report : goal.returns-in-Err-NoMemory-clause-report
returns-in-Err-NoMemory-clause-report g c =
    let UNREAD : List Name → Name → Type 0 = IsFirstUnread g.F.Files.reads g.F.Files.files g.F.Files.read_faults c.args.files.now c.args.files.now in
    let UNWRITTEN : Command → Option Name → Type 0 = IsUnwrittenFrom g.F.Files.reads g.F.Files.files g.F.Files.writes c.args.files.now c.args.files.now in
    stopped_ends g.E.Sink.puts g.E.Sink.told g.E.Sink.faults (map string_bytes c.args.words.now) UNREAD UNWRITTEN (g.F.Files.files c.args.files.now) (end_of c.stop-in-Err-NoMemory.result) c.args.err.now c.stop-in-Err-NoMemory.new.err
    (rw c.stop-in-Err-NoMemory.ensures.status tt) (rw c.stop-in-Err-NoMemory.ensures.status c.stop-in-Err-NoMemory.ensures.report)

pub returns-in-Err-Usage-clause-at_once : goal.returns-in-Err-Usage-clause-at_once
returns-in-Err-Usage-clause-at_once g c = rw c.stop.ensures.status tt

pub returns-in-Err-NoMemory-clause-at_once : goal.returns-in-Err-NoMemory-clause-at_once
returns-in-Err-NoMemory-clause-at_once g c = rw c.stop-in-Err-NoMemory.ensures.status c.stop-in-Err-NoMemory.ensures.at_once

pub returns-in-Ok-clause-at_once : goal.returns-in-Ok-clause-at_once
returns-in-Ok-clause-at_once g c = c.run_on.ensures.at_once
