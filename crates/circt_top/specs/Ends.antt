-- How a run ends.
use Rattle.std.specs.Prelude.{◌≡◌, Option, Some, None}
use Rattle.diag.specs.declared.refusal.Refusal.{Refusal}
use Rattle.command_line.specs.declared.usage.UsageKind.{UsageKind}
use Rattle.circt_top.specs.Outcome.{Verdict}
use Rattle.circt_top.specs.Outcome.Verdict.{given, different, unknown}
use Rattle.circt_top.specs.declared.status.Status.{Status}
use Rattle.circt_top.specs.declared.status.Status.TheVariants.{Done, Different, Unknown, Refused, Usage, ReadFault, WriteFault, NoMemory}

-- an end: wrong words, a text that went out with its verdict, a refusal, an input that was not read, an output that was not
-- written, or out of memory
pub data End : Type 0 where
  usage : UsageKind → End
  answered : Verdict → End
  refused : Refusal → End
  read_fault write_fault no_memory : End

abbrev pub end_of : Status → End
end_of Done = answered given
end_of (Different input) = answered (different input)
end_of (Unknown log) = answered (unknown log)
end_of (Refused r) = refused r
end_of (Usage kind) = usage kind
end_of ReadFault = read_fault
end_of WriteFault = write_fault
end_of NoMemory = no_memory

-- ---- facts for some ends

abbrev pub usage_of : End → Option UsageKind
usage_of (usage kind) = Some kind
usage_of _ = None

abbrev pub OnAnswered : End → (Verdict → Type 0) → Type 0
OnAnswered (answered verdict) P = P verdict
OnAnswered _ P = Unit {0}

abbrev pub OnRefused : End → (Refusal → Type 0) → Type 0
OnRefused (refused r) P = P r
OnRefused _ P = Unit {0}

abbrev pub OnReadFault : End → Type 0 → Type 0
OnReadFault read_fault P = P
OnReadFault _ P = Unit {0}

abbrev pub OnWriteFault : End → Type 0 → Type 0
OnWriteFault write_fault P = P
OnWriteFault _ P = Unit {0}

abbrev pub OnOutOfMemory : End → Type 0 → Type 0
OnOutOfMemory no_memory P = P
OnOutOfMemory _ P = Unit {0}

-- a fact for the ends before anything is written, and one for the end out of memory
abbrev pub Unwritten : End → Type 0 → Type 0 → Type 0
Unwritten (answered verdict) P Q = Unit {0}
Unwritten write_fault P Q = Unit {0}
Unwritten no_memory P Q = Q
Unwritten _ P Q = P

-- ---- which end it is

-- wrong words are told exactly where something is wrong with them, out of memory aside
abbrev pub IsUsage : End → Option UsageKind → Type 0
IsUsage (usage kind) fault = fault ≡ Some kind
IsUsage no_memory fault = Unit {0}
IsUsage _ fault = fault ≡ None

abbrev pub IsAnsweredOrNoMemory : End → Type 0
IsAnsweredOrNoMemory (answered verdict) = Unit {0}
IsAnsweredOrNoMemory no_memory = Unit {0}
IsAnsweredOrNoMemory _ = ⊥

abbrev pub IsReadFaultOrNoMemory : End → Type 0
IsReadFaultOrNoMemory read_fault = Unit {0}
IsReadFaultOrNoMemory no_memory = Unit {0}
IsReadFaultOrNoMemory _ = ⊥

abbrev pub IsRefusedOrNoMemory : End → Type 0
IsRefusedOrNoMemory (refused r) = Unit {0}
IsRefusedOrNoMemory no_memory = Unit {0}
IsRefusedOrNoMemory _ = ⊥

-- an end before any file is read
abbrev pub IsStop : End → Type 0
IsStop (usage kind) = Unit {0}
IsStop no_memory = Unit {0}
IsStop _ = ⊥

-- an end of the work on inputs that were read
abbrev pub IsWorked : End → Type 0
IsWorked (usage kind) = ⊥
IsWorked read_fault = ⊥
IsWorked _ = Unit {0}
