use Rattle.std.proofs.Common.{[], None}
use Rattle.circt_top.specs.Answer.{Subject}
use Rattle.circt_top.specs.Views.{subject_of}
use Rattle.circt_top.proofs.run.report_unread.Goals as goal

pub returns-in-Fault-clause-report : goal.returns-in-Fault-clause-report
returns-in-Fault-clause-report g c = rw c.in-Fault.is (subject_of c.unread_subject.result, c.unread_subject.ensures, c.report.ensures.report)

pub returns-in-NoMemory-clause-report : goal.returns-in-NoMemory-clause-report
returns-in-NoMemory-clause-report g c =
    let s : Subject = record { input = []; source = []; output = None } in
    rw c.in-NoMemory.is (s, tt, c.stop.ensures.report s)

pub returns-in-Fault-clause-at_once : goal.returns-in-Fault-clause-at_once
returns-in-Fault-clause-at_once g c = rw c.in-Fault.is tt

pub returns-in-NoMemory-clause-at_once : goal.returns-in-NoMemory-clause-at_once
returns-in-NoMemory-clause-at_once g c = rw c.in-NoMemory.is c.stop.ensures.at_once
