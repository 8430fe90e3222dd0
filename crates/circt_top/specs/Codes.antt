-- The exit status of each end of a run.
use Rattle.std.specs.Prelude.{ℕ}
use Rattle.circt_top.specs.declared.status.Status.{Status}
use Rattle.circt_top.specs.declared.status.Status.TheVariants.{Done, Refused, Usage, Different, Unknown, ReadFault, WriteFault, NoMemory}

abbrev pub code_of : Status → ℕ
code_of Done = 0
code_of (Refused refusal) = 1
code_of (Usage kind) = 2
code_of (Different input) = 3
code_of (Unknown log) = 4
code_of ReadFault = 5
code_of WriteFault = 6
code_of NoMemory = 7
