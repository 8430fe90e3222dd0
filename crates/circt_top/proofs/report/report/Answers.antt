-- The line that was sent is reported, whatever the sink met.
use Rattle.circt_top.specs.Answer.{line_of}
use Rattle.circt_top.specs.Ends.{end_of}
use Rattle.circt_top.specs.Views.{subject_of}
use Rattle.std.proofs.Common.{is_ok}
use Rattle.circt_top.proofs.Reported.{reported, told_once}
use Rattle.circt_top.proofs.report.report.Goals as goal

pub returns-clause-report : goal.returns-clause-report
returns-clause-report g c =
    reported g.E.Sink.puts g.E.Sink.told g.E.Sink.faults c.args.err.now c.put_line.new.err (line_of (subject_of c.args.subject.now) (end_of c.args.status.now)) c.put_line.result
    c.put_line.ensures.ok c.put_line.ensures.err c.put_line.ensures.cause c.put_line.ensures.puts

pub returns-clause-at_once : goal.returns-clause-at_once
returns-clause-at_once g c = told_once g.E.Sink.puts (end_of c.args.status.now) c.args.err.now c.put_line.new.err (is_ok c.put_line.result) c.put_line.ensures.at_once
