-- What is answered for the bytes read is answered for the told files.
use Rattle.std.proofs.Common.{◌≡◌, inl, refl, sym, ◌∙◌, ap, subst, map}
use Rattle.std.specs.Prelude.{string_bytes}
use Rattle.command_line.specs.Invocations.{command_of}
use Rattle.circt_top.specs.Inputs.{HasRead, AreReads}
use Rattle.io_edge.specs.declared.file_access.FileFail.TheVariants as fail
use Rattle.circt_top.specs.ReadOrder.{IsFirstUnread, IsFirstUnwritten, IsUnwrittenFrom}
use Rattle.circt_top.specs.Ends.{end_of}
use Rattle.circt_top.specs.Outcome.{IsAnswer}
use Rattle.circt_top.specs.Outcome.Answer.{prints, refuses}
use Rattle.circt_top.specs.Views.{subject_of}
use Rattle.circt_top.proofs.Answered.{none_missing, refused_whole, made_whole}
use Rattle.circt_top.proofs.Ends.{refused_on, answered_on, write_fault_on, unwritten_on, unread_refuses, unread_ends, unread_answers}
use Rattle.circt_top.proofs.ReadOrder.{unread_reads, unread_named, worked_reads}
use Rattle.circt_top.proofs.Reported.{silent}
use Rattle.circt_top.proofs.Starving.{starved_whole, unread_unwritten}
use Rattle.circt_top.proofs.Subjects.{subject_named}
use Rattle.circt_top.proofs.run.run_on.Goals as goal

pub returns-in-Err-clause-missing : goal.returns-in-Err-clause-missing
returns-in-Err-clause-missing g c = λ missing. rw c.report_unread.ensures.status (unread_ends c.in-Err.unread)

pub returns-in-Err-clause-refused : goal.returns-in-Err-clause-refused
returns-in-Err-clause-refused g c = rw c.report_unread.ensures.status (unread_refuses _ c.in-Err.unread)

pub returns-in-Err-clause-read_once : goal.returns-in-Err-clause-read_once
returns-in-Err-clause-read_once g c =
    let same : c.as_slice.result.now ≡ c.args.invocation.now.inputs.items = cc in
    let names : map string_bytes c.as_slice.result.now ≡ (command_of c.args.invocation.now).inputs = ap (map string_bytes) same in
    rw c.report_unread.ensures.status
    (unread_reads g.F.Files.reads g.F.Files.files g.F.Files.writes c.in-Err.unread (command_of c.args.invocation.now) c.args.files.now c.read_inputs.new.files (rw (← names) c.in-Err.ensures.stops))

pub returns-in-Err-clause-silent : goal.returns-in-Err-clause-silent
returns-in-Err-clause-silent g c = rw c.report_unread.ensures.status (unread_answers _ c.in-Err.unread)

pub returns-in-Err-clause-report : goal.returns-in-Err-clause-report
returns-in-Err-clause-report g c =
    let same : c.as_slice.result.now ≡ c.args.invocation.now.inputs.items = cc in
    let names : map string_bytes c.as_slice.result.now ≡ (command_of c.args.invocation.now).inputs = ap (map string_bytes) same in
    let r = c.report_unread.ensures.report in
    rw c.report_unread.ensures.status (
      r.0,
      unread_named g.F.Files.reads g.F.Files.files g.F.Files.read_faults (IsUnwrittenFrom g.F.Files.reads g.F.Files.files g.F.Files.writes c.args.files.now c.read_inputs.new.files)
          (g.F.Files.files c.args.files.now) c.in-Err.unread (command_of c.args.invocation.now) c.args.files.now c.read_inputs.new.files r.0
          (rw (← names) c.in-Err.ensures.stops) (rw (← names) c.in-Err.ensures.fault) r.1,
      r.2,
    )

pub returns-clause-read_once : goal.returns-clause-read_once
returns-clause-read_once g c =
    let same : c.as_slice.result.now ≡ c.args.invocation.now.inputs.items = cc in
    let names : map string_bytes c.as_slice.result.now ≡ (command_of c.args.invocation.now).inputs = ap (map string_bytes) same in
    let read : HasRead g.F.Files.reads g.F.Files.files c.args.files.now (command_of c.args.invocation.now).inputs c.in-Ok.sources.items c.read_inputs.new.files = rw (← names) c.in-Ok.ensures.read in
    worked_reads g.F.Files.reads g.F.Files.files g.F.Files.writes (end_of c.answer-ended.result.status)
    (command_of c.args.invocation.now) c.args.files.now c.read_inputs.new.files c.answer-ended.new.files c.in-Ok.sources.items read c.answer-ended.ensures.written

pub returns-clause-silent : goal.returns-clause-silent
returns-clause-silent g c =
    silent g.E.Sink.puts g.E.Sink.told g.E.Sink.faults c.args.err.now c.report.new.err (subject_of c.subject_of.result) (end_of c.answer-ended.result.status) c.report.ensures.report

pub returns-clause-missing : goal.returns-clause-missing
returns-clause-missing g c = λ missing.
    (let same : c.as_slice.result.now ≡ c.args.invocation.now.inputs.items = cc in
    let names : map string_bytes c.as_slice.result.now ≡ (command_of c.args.invocation.now).inputs = ap (map string_bytes) same in
    absurd (none_missing (g.F.Files.files c.args.files.now) (command_of c.args.invocation.now).inputs c.in-Ok.sources.items (rw (← names) c.in-Ok.ensures.told) missing))

pub returns-clause-refused : goal.returns-clause-refused
returns-clause-refused g c =
    let same : c.as_slice.result.now ≡ c.args.invocation.now.inputs.items = cc in
    let viewed : c.as_slice-2.result.now ≡ c.in-Ok.sources.items = cc in
    let names : map string_bytes c.as_slice.result.now ≡ (command_of c.args.invocation.now).inputs = ap (map string_bytes) same in
    let told : AreReads (g.F.Files.files c.args.files.now) (command_of c.args.invocation.now).inputs c.as_slice-2.result.now = rw (← names, viewed) c.in-Ok.ensures.told in
    refused_on _ _ (end_of c.answer-ended.result.status) (λ r is. refused_whole (command_of c.args.invocation.now) (g.F.Files.files c.args.files.now) c.as_slice-2.result.now r told is) c.answer-ended.ensures.refused

pub returns-in-Err-clause-refused_as_read : goal.returns-in-Err-clause-refused_as_read
returns-in-Err-clause-refused_as_read g c = rw c.report_unread.ensures.status (unread_refuses _ c.in-Err.unread)

pub returns-clause-refused_as_read : goal.returns-clause-refused_as_read
returns-clause-refused_as_read g c =
    let same : c.as_slice.result.now ≡ c.args.invocation.now.inputs.items = cc in
    let viewed : c.as_slice-2.result.now ≡ c.in-Ok.sources.items = cc in
    let names : map string_bytes c.as_slice.result.now ≡ (command_of c.args.invocation.now).inputs = ap (map string_bytes) same in
    let read : HasRead g.F.Files.reads g.F.Files.files c.args.files.now (command_of c.args.invocation.now).inputs c.in-Ok.sources.items c.read_inputs.new.files = rw (← names) c.in-Ok.ensures.read in
    refused_on _ _ (end_of c.answer-ended.result.status)
    (λ r is. (c.read_inputs.new.files, c.in-Ok.sources.items, read, subst (λ s. IsAnswer (command_of c.args.invocation.now).work s (refuses r)) viewed is))
    c.answer-ended.ensures.refused

pub returns-clause-done : goal.returns-clause-done
returns-clause-done g c =
    let same : c.as_slice.result.now ≡ c.args.invocation.now.inputs.items = cc in
    let viewed : c.as_slice-2.result.now ≡ c.in-Ok.sources.items = cc in
    let names : map string_bytes c.as_slice.result.now ≡ (command_of c.args.invocation.now).inputs = ap (map string_bytes) same in
    let told : AreReads (g.F.Files.files c.args.files.now) (command_of c.args.invocation.now).inputs c.as_slice-2.result.now = rw (← names, viewed) c.in-Ok.ensures.told in
    let read : HasRead g.F.Files.reads g.F.Files.files c.args.files.now (command_of c.args.invocation.now).inputs c.in-Ok.sources.items c.read_inputs.new.files = rw (← names) c.in-Ok.ensures.read in
    answered_on _ _ (end_of c.answer-ended.result.status)
    (λ verdict x. (x.0, (c.read_inputs.new.files, c.in-Ok.sources.items, read, (x.1, subst (λ s. IsAnswer (command_of c.args.invocation.now).work s (prints verdict x.0)) viewed x.2)), made_whole (command_of c.args.invocation.now) (g.F.Files.files c.args.files.now) c.as_slice-2.result.now verdict x.0 told x.2))
    c.answer-ended.ensures.done

pub returns-clause-prefix : goal.returns-clause-prefix
returns-clause-prefix g c =
    let same : c.as_slice.result.now ≡ c.args.invocation.now.inputs.items = cc in
    let viewed : c.as_slice-2.result.now ≡ c.in-Ok.sources.items = cc in
    let names : map string_bytes c.as_slice.result.now ≡ (command_of c.args.invocation.now).inputs = ap (map string_bytes) same in
    let told : AreReads (g.F.Files.files c.args.files.now) (command_of c.args.invocation.now).inputs c.as_slice-2.result.now = rw (← names, viewed) c.in-Ok.ensures.told in
    let read : HasRead g.F.Files.reads g.F.Files.files c.args.files.now (command_of c.args.invocation.now).inputs c.in-Ok.sources.items c.read_inputs.new.files = rw (← names) c.in-Ok.ensures.read in
    write_fault_on _ _ (end_of c.answer-ended.result.status)
    (λ x. (x.0, x.1, (c.read_inputs.new.files, c.in-Ok.sources.items, read, (x.2, subst (λ s. IsAnswer (command_of c.args.invocation.now).work s (prints x.0 x.1)) viewed x.3)), made_whole (command_of c.args.invocation.now) (g.F.Files.files c.args.files.now) c.as_slice-2.result.now x.0 x.1 told x.3))
    c.answer-ended.ensures.prefix

pub returns-clause-report : goal.returns-clause-report
returns-clause-report g c =
    let same : c.as_slice.result.now ≡ c.args.invocation.now.inputs.items = cc in
    let viewed : c.as_slice-3.result.now ≡ c.in-Ok.sources.items = cc in
    let names : map string_bytes c.as_slice.result.now ≡ (command_of c.args.invocation.now).inputs = ap (map string_bytes) same in
    let told : AreReads (g.F.Files.files c.args.files.now) (command_of c.args.invocation.now).inputs c.as_slice-3.result.now = rw (← names, viewed) c.in-Ok.ensures.told in
    let read : HasRead g.F.Files.reads g.F.Files.files c.args.files.now (command_of c.args.invocation.now).inputs c.in-Ok.sources.items c.read_inputs.new.files = rw (← names) c.in-Ok.ensures.read in (
      subject_of c.subject_of.result,
      subject_named (IsFirstUnread g.F.Files.reads g.F.Files.files g.F.Files.read_faults c.args.files.now c.answer-ended.new.files)
          (IsUnwrittenFrom g.F.Files.reads g.F.Files.files g.F.Files.writes c.args.files.now c.answer-ended.new.files) (g.F.Files.files c.args.files.now)
          c.as_slice-3.result.now (command_of c.args.invocation.now) (end_of c.answer-ended.result.status) (subject_of c.subject_of.result) c.answer-ended.ensures.kinds told
          c.subject_of.ensures.refused
          (write_fault_on _ _ (end_of c.answer-ended.result.status)
          (λ x. (
            c.read_inputs.new.files,
            c.in-Ok.sources.items,
            read,
            subst (IsFirstUnwritten g.F.Files.writes fail.Failed (command_of c.args.invocation.now) c.read_inputs.new.files c.answer-ended.new.files)
                (sym c.subject_of.ensures.unwritten) x,
          )) c.answer-ended.ensures.target),
      c.report.ensures.report,
    )

pub returns-clause-unwritten : goal.returns-clause-unwritten
returns-clause-unwritten g c =
    let same : c.as_slice.result.now ≡ c.args.invocation.now.inputs.items = cc in
    let viewed : c.as_slice-2.result.now ≡ c.in-Ok.sources.items = cc in
    let names : map string_bytes c.as_slice.result.now ≡ (command_of c.args.invocation.now).inputs = ap (map string_bytes) same in
    let read : HasRead g.F.Files.reads g.F.Files.files c.args.files.now (command_of c.args.invocation.now).inputs c.in-Ok.sources.items c.read_inputs.new.files = rw (← names) c.in-Ok.ensures.read in
    unwritten_on _ _ _ _ (end_of c.answer-ended.result.status) (λ x. (x.0, x.1 ∙ c.read_inputs.ensures.unchanged))
    (λ x. (
      x.0,
      starved_whole g.F.Files.reads g.F.Files.writes g.F.Files.files (command_of c.args.invocation.now) c.args.files.now c.read_inputs.new.files c.answer-ended.new.files
          c.in-Ok.sources.items c.as_slice-2.result.now read c.read_inputs.ensures.unchanged viewed x.1,
    ))
    c.answer-ended.ensures.unwritten

pub returns-in-Err-clause-unwritten : goal.returns-in-Err-clause-unwritten
returns-in-Err-clause-unwritten g c =
    rw c.report_unread.ensures.status (unread_unwritten _ _ c.in-Err.unread (refl, c.read_inputs.ensures.unchanged) (refl, inl c.read_inputs.ensures.unchanged))

pub returns-in-Err-clause-at_once : goal.returns-in-Err-clause-at_once
returns-in-Err-clause-at_once g c = rw c.report_unread.ensures.status c.report_unread.ensures.at_once

pub returns-clause-at_once : goal.returns-clause-at_once
returns-clause-at_once g c = c.report.ensures.at_once
