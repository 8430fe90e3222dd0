-- From a run of a command to a run for its words; and the ends that are left where nothing failed.
use Rattle.std.proofs.Common.{◌≡◌, ℕ, ◌⊎◌, inl, inr, Bool, List, [], Option, Some, None, Ok, sym, ◌∙◌, ap, subst}
use Rattle.hw_model.specs.Types.{Name}
use Rattle.diag.specs.declared.refusal.Refusal.{Refusal}
use Rattle.command_line.specs.Line.{Command}
use Rattle.command_line.specs.declared.usage.UsageKind.{UsageKind}
use Rattle.circt_top.specs.Words.{line, fault_of, fault_in, ForCommand}
use Rattle.circt_top.specs.Inputs.{Told, AreContents}
use Rattle.circt_top.specs.Outcome.{Verdict, Texts, IsAnswered}
use Rattle.circt_top.specs.Ends.{End, usage_of, OnAnswered, OnRefused, OnReadFault, OnWriteFault, Unwritten, IsUsage, IsStop, IsAnsweredOrNoMemory, IsRefusedOrNoMemory}
use Rattle.circt_top.specs.Ends.End.{usage, answered, refused, read_fault, write_fault, no_memory}
use Rattle.circt_top.specs.Answer.{IsMadeOf, IsRefusalOf, Subject, IsSubject, line_of, Reports, ReportsEnd}
use Rattle.circt_top.proofs.Answers.{answered_unrefused, made_answered}
use Rattle.circt_top.proofs.Ends.{answered_on, refused_on, read_fault_on, write_fault_on, unwritten_on}

-- what the line of an end names that names nothing
nameless : Subject
nameless = record { input = []; source = []; output = None }

-- the words say one command
same_command : (words : List Name) {p q : Command} → line words ≡ Ok p → line words ≡ Ok q → p ≡ q
same_command words {p} {q} h k = let e : Ok p ≡ Ok q = sym h ∙ k in cc

pub for_command : (words : List Name) (p : Command) (P : Command → Type 0) → line words ≡ Ok p → P p → ForCommand words P
for_command words p P h x = λ q k. subst P (same_command words h k) x

-- an end before any file is read is reported
pub stopped_ends : {S : Type 0} (puts : S → List ℕ → Bool → S → Type 0) (told : S → Option (List ℕ)) (faults : S → ℕ) (words : List Name) (IsUnread : List Name → Name → Type 0) (IsUnwritten : Command → Option Name → Type 0) (files : Told) (end : End) (before after : S) → IsStop end
    → ((s : Subject) → Reports puts told faults before after (line_of s end)) → ReportsEnd puts told faults words IsUnread IsUnwritten files end before after
stopped_ends puts told faults words IsUnread IsUnwritten files (answered verdict) before after stop reports = absurd stop
stopped_ends puts told faults words IsUnread IsUnwritten files (refused r) before after stop reports = absurd stop
stopped_ends puts told faults words IsUnread IsUnwritten files read_fault before after stop reports = absurd stop
stopped_ends puts told faults words IsUnread IsUnwritten files write_fault before after stop reports = absurd stop
stopped_ends puts told faults words IsUnread IsUnwritten files (usage kind) before after stop reports = record { subject = nameless; named = λ c h. tt; reports = reports nameless }
stopped_ends puts told faults words IsUnread IsUnwritten files no_memory before after stop reports = record { subject = nameless; named = λ c h. tt; reports = reports nameless }

-- the end of a run of a command is reported
pub run_ends : {S : Type 0} (puts : S → List ℕ → Bool → S → Type 0) (told : S → Option (List ℕ)) (faults : S → ℕ) (words : List Name) (IsUnread : List Name → Name → Type 0) (IsUnwritten : Command → Option Name → Type 0) (files : Told) (end : End) (before after : S) (p : Command)
    → line words ≡ Ok p → (s : Subject) × IsSubject IsUnread IsUnwritten files end p s × Reports puts told faults before after (line_of s end)
    → ReportsEnd puts told faults words IsUnread IsUnwritten files end before after
run_ends puts told faults words IsUnread IsUnwritten files end before after p h x =
    record { subject = x.0; named = for_command words p (λ c. IsSubject IsUnread IsUnwritten files end c x.0) h x.1; reports = x.2 }

-- facts that hold of the command hold of the words
pub refused_for : (words : List Name) (p : Command) (P : Command → Refusal → Type 0) (end : End) → line words ≡ Ok p → OnRefused end (P p)
    → OnRefused end (λ r. ForCommand words (λ q. P q r))
refused_for words p P end h x = refused_on (P p) (λ r. ForCommand words (λ q. P q r)) end (λ r. for_command words p (λ q. P q r) h) x

pub answered_for : (words : List Name) (p : Command) (P : Command → Verdict → Type 0) (end : End) → line words ≡ Ok p → OnAnswered end (P p)
    → OnAnswered end (λ verdict. ForCommand words (λ q. P q verdict))
answered_for words p P end h x = answered_on (P p) (λ verdict. ForCommand words (λ q. P q verdict)) end (λ verdict. for_command words p (λ q. P q verdict) h) x

pub read_fault_for : (words : List Name) (p : Command) (P : Command → Type 0) (end : End) → line words ≡ Ok p → OnReadFault end (P p)
    → OnReadFault end (ForCommand words P)
read_fault_for words p P end h x = read_fault_on (P p) (ForCommand words P) end (for_command words p P h) x

pub write_fault_for : (words : List Name) (p : Command) (P : Command → Type 0) (end : End) → line words ≡ Ok p → OnWriteFault end (P p)
    → OnWriteFault end (ForCommand words P)
write_fault_for words p P end h x = write_fault_on (P p) (ForCommand words P) end (for_command words p P h) x

pub unwritten_for : (words : List Name) (p : Command) (P R S : Type 0) (Q : Command → Type 0) (end : End) → line words ≡ Ok p → Unwritten end P (R × (S ⊎ Q p))
    → Unwritten end P (R × (S ⊎ ForCommand words Q))
unwritten_for words p P R S Q end h x = unwritten_on P P (R × (S ⊎ Q p)) (R × (S ⊎ ForCommand words Q)) end (λ y. y) (λ y. (y.0, either y.1)) x where
  either : S ⊎ Q p → S ⊎ ForCommand words Q
  either (inl s) = inl s
  either (inr q) = inr (for_command words p Q h q)

-- words that say a command are not wrong
pub no_usage : (words : List Name) {p : Command} (end : End) → line words ≡ Ok p → usage_of end ≡ None → IsUsage end (fault_of words)
no_usage words (usage kind) h none = let e : Some kind ≡ None = none in cc
no_usage words (answered verdict) h none = ap fault_in h
no_usage words (refused r) h none = ap fault_in h
no_usage words read_fault h none = ap fault_in h
no_usage words write_fault h none = ap fault_in h
no_usage words no_memory h none = tt

module _ (words : List Name) (p : Command) (told : Told) (R W : Type 0) (D F : Verdict → Texts → Type 0) (h : line words ≡ Ok p) (contents : List (List ℕ)) (are : AreContents told p.inputs contents) where
  usage_gone : (kind : UsageKind) → fault_of words ≡ Some kind → ⊥
  usage_gone kind e = let none : None ≡ Some kind = sym (ap fault_in h) ∙ e in cc

  pub complete : (end : End) → IsUsage end (fault_of words) → OnRefused end (IsRefusalOf p told) → OnReadFault end R → OnWriteFault end W
      → IsAnswered p.work contents → ¬ R → ¬ W → IsAnsweredOrNoMemory end
  complete (usage kind) wrong refuses read write answer no_read no_write = usage_gone kind wrong
  complete (answered verdict) wrong refuses read write answer no_read no_write = tt
  complete (refused r) wrong refuses read write answer no_read no_write = answered_unrefused p.work contents r answer (refuses contents are)
  complete read_fault wrong refuses read write answer no_read no_write = no_read read
  complete write_fault wrong refuses read write answer no_read no_write = no_write write
  complete no_memory wrong refuses read write answer no_read no_write = tt

  pub refusing : (end : End) → IsUsage end (fault_of words) → OnReadFault end R → OnAnswered end (λ verdict. (made : Texts) × D verdict made × IsMadeOf p told verdict made)
      → OnWriteFault end ((verdict : Verdict) × (made : Texts) × F verdict made × IsMadeOf p told verdict made) → ¬ IsAnswered p.work contents → ¬ R → IsRefusedOrNoMemory end
  refusing (usage kind) wrong read done prefix outside no_read = usage_gone kind wrong
  refusing (answered verdict) wrong read done prefix outside no_read = outside (made_answered p.work contents verdict done.0 (done.2 contents are))
  refusing (refused r) wrong read done prefix outside no_read = tt
  refusing read_fault wrong read done prefix outside no_read = no_read read
  refusing write_fault wrong read done prefix outside no_read = outside (made_answered p.work contents prefix.0 prefix.1 (prefix.3 contents are))
  refusing no_memory wrong read done prefix outside no_read = tt

-- the words say one command, so what holds of it holds of this
pub one_command : (words : List Name) (p q : Command) (P : Command → Type 0) → line words ≡ Ok p → line words ≡ Ok q → P q → P p
one_command words p q P h k x = subst P (sym (same_command words h k)) x
