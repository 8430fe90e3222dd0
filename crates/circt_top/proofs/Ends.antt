-- Facts for some ends of a run, from others.
use Rattle.diag.specs.declared.refusal.Refusal.{Refusal}
use Rattle.circt_top.specs.Outcome.{Verdict}
use Rattle.circt_top.specs.Inputs.{unread_end}
use Rattle.circt_top.specs.Ends.{End, OnAnswered, OnRefused, OnReadFault, OnWriteFault, Unwritten, IsReadFaultOrNoMemory}
use Rattle.circt_top.specs.Ends.End.{usage, answered, refused, read_fault, write_fault, no_memory}
use Rattle.circt_top.specs.declared.inputs.Unread.{Unread}
use Rattle.circt_top.specs.declared.inputs.Unread.TheVariants.{Fault, NoMemory}

pub answered_on : (P Q : Verdict → Type 0) (end : End) → ((verdict : Verdict) → P verdict → Q verdict) → OnAnswered end P → OnAnswered end Q
answered_on P Q (usage kind) f x = tt
answered_on P Q (answered verdict) f x = f verdict x
answered_on P Q (refused r) f x = tt
answered_on P Q read_fault f x = tt
answered_on P Q write_fault f x = tt
answered_on P Q no_memory f x = tt

pub refused_on : (P Q : Refusal → Type 0) (end : End) → ((r : Refusal) → P r → Q r) → OnRefused end P → OnRefused end Q
refused_on P Q (usage kind) f x = tt
refused_on P Q (answered verdict) f x = tt
refused_on P Q (refused r) f x = f r x
refused_on P Q read_fault f x = tt
refused_on P Q write_fault f x = tt
refused_on P Q no_memory f x = tt

pub read_fault_on : (P Q : Type 0) (end : End) → (P → Q) → OnReadFault end P → OnReadFault end Q
read_fault_on P Q (usage kind) f x = tt
read_fault_on P Q (answered verdict) f x = tt
read_fault_on P Q (refused r) f x = tt
read_fault_on P Q read_fault f x = f x
read_fault_on P Q write_fault f x = tt
read_fault_on P Q no_memory f x = tt

pub write_fault_on : (P Q : Type 0) (end : End) → (P → Q) → OnWriteFault end P → OnWriteFault end Q
write_fault_on P Q (usage kind) f x = tt
write_fault_on P Q (answered verdict) f x = tt
write_fault_on P Q (refused r) f x = tt
write_fault_on P Q read_fault f x = tt
write_fault_on P Q write_fault f x = f x
write_fault_on P Q no_memory f x = tt

pub unwritten_on : (P P2 Q Q2 : Type 0) (end : End) → (P → P2) → (Q → Q2) → Unwritten end P Q → Unwritten end P2 Q2
unwritten_on P P2 Q Q2 (usage kind) f g x = f x
unwritten_on P P2 Q Q2 (answered verdict) f g x = tt
unwritten_on P P2 Q Q2 (refused r) f g x = f x
unwritten_on P P2 Q Q2 read_fault f g x = f x
unwritten_on P P2 Q Q2 write_fault f g x = tt
unwritten_on P P2 Q Q2 no_memory f g x = g x

-- nothing is refused where an input was not read
pub unread_refuses : (P : Refusal → Type 0) (unread : Unread) → OnRefused (unread_end unread) P
unread_refuses P (Fault name) = tt
unread_refuses P NoMemory = tt

-- nothing is answered where an input was not read
pub unread_answers : (P : Verdict → Type 0) (unread : Unread) → OnAnswered (unread_end unread) P
unread_answers P (Fault name) = tt
unread_answers P NoMemory = tt

-- a run of which an input was not read ends so
pub unread_ends : (unread : Unread) → IsReadFaultOrNoMemory (unread_end unread)
unread_ends (Fault name) = tt
unread_ends NoMemory = tt
