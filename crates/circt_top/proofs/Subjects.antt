-- What the line on the end of a command names.
use Rattle.std.proofs.Common.{◌≡◌, ℕ, List, Option, ◌∙◌, ap}
use Rattle.hw_model.specs.Types.{Name}
use Rattle.command_line.specs.Line.{Command}
use Rattle.circt_top.specs.Inputs.{Told, AreReads, name_at, bytes_at}
use Rattle.circt_top.specs.Ends.{End, OnRefused, OnWriteFault, IsWorked}
use Rattle.circt_top.specs.Ends.End.{usage, answered, refused, read_fault, write_fault, no_memory}
use Rattle.circt_top.specs.Answer.{Subject, IsSubject}
use Rattle.circt_top.proofs.Answered.{prefixes_read}

-- after the work on inputs that were read: the input that is refused with what was read of it, or the output
pub subject_named : (IsUnread : List Name → Name → Type 0) (IsUnwritten : Command → Option Name → Type 0) (told : Told) (sources : List (List ℕ)) (c : Command) (end : End) (s : Subject) → IsWorked end → AreReads told c.inputs sources
    → OnRefused end (λ r. (s.input ≡ name_at r.file c.inputs) × (s.source ≡ bytes_at r.file sources)) → OnWriteFault end (IsUnwritten c s.output) → IsSubject IsUnread IsUnwritten told end c s
subject_named IsUnread IsUnwritten told sources c (usage kind) s worked read named output = tt
subject_named IsUnread IsUnwritten told sources c (answered verdict) s worked read named output = tt
subject_named IsUnread IsUnwritten told sources c (refused r) s worked read named output =
    (named.0, λ contents h. named.1 ∙ ap (bytes_at r.file) (prefixes_read told c.inputs sources contents read h))
subject_named IsUnread IsUnwritten told sources c read_fault s worked read named output = absurd worked
subject_named IsUnread IsUnwritten told sources c write_fault s worked read named output = output
subject_named IsUnread IsUnwritten told sources c no_memory s worked read named output = tt
