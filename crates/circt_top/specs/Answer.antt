-- What the program answers, for its words, the files that are told, and what its sinks take.
use Rattle.std.specs.Prelude.{◌≡◌, ℕ, ◌≤◌, Bool, true, false, List, ◌++◌, [], ◌∷◌, Option, Some, None, Result, Ok, Err, take, length, codes, decimal, ◌⊎◌}
use Rattle.wiring.specs.Wiring.{In}
use Rattle.hw_model.specs.Types.{Name}
use Rattle.io_edge.specs.declared.file_access.FileFail.{FileFail}
use Rattle.io_edge.specs.declared.file_access.FileFail.TheVariants.{Failed, NoMemory}
use Rattle.io_edge.specs.Faults.{HasRisen}
use Rattle.io_edge.specs.Writing.{with_file}
use Rattle.io_edge.specs.Bytes.{Appends, AppendsPrefix}
use Rattle.io_edge.specs.Pieces.{pieces_of, Sends}
use Rattle.diag.specs.Puts.{GoesOut}
use Rattle.diag.specs.Line.{refusal_line, shown_name}
use Rattle.diag.specs.declared.refusal.Refusal.{Refusal}
use Rattle.command_line.specs.Line.{Command}
use Rattle.command_line.specs.Usage.{usage_text, offset_of}
use Rattle.command_line.specs.declared.usage.UsageKind.{UsageKind}
use Rattle.circt_top.specs.Outcome.{Verdict, Texts, IsAnswer}
use Rattle.circt_top.specs.Outcome.Answer.{prints, refuses}
use Rattle.circt_top.specs.Words.{ForCommand}
use Rattle.circt_top.specs.Inputs.{Told, AreContents, ReadsThen, prefixes, name_at, bytes_at}
use Rattle.circt_top.specs.Ends.{End, OnOutOfMemory}
use Rattle.circt_top.specs.Ends.End.{usage, answered, refused, read_fault, write_fault, no_memory}

-- ---- the output

-- the file has a prefix of the text, or is as it was
abbrev pub IsHalfWritten : Name → Told → Told → List ℕ → Type 0
IsHalfWritten name before after text =
    (files : List (Name × List ℕ)) → before ≡ Some files
    → (after ≡ Some files) ⊎ ((count : ℕ) × (count ≤ length text) × (after ≡ Some (with_file name (take count text) files)))

module _ {F : Type 0} (writes : F → Name → List ℕ → Result (Unit {0}) FileFail → F → Type 0) (files : F → Told) where
  -- one write gave the file of a name a whole text
  abbrev pub WritesWhole : Name → List ℕ → F → F → Type 0
  WritesWhole name text before after = writes before name text (Ok tt) after × ((all : List (Name × List ℕ)) → files before ≡ Some all → files after ≡ Some (with_file name text all))

  -- one write of the file of a name failed, which then is as it was or has a prefix of the text
  abbrev pub WritesHalf : Name → List ℕ → F → F → Type 0
  WritesHalf name text before after = writes before name text (Err Failed) after × IsHalfWritten name (files before) (files after) text

  -- each of these files was given its whole text, in order, and nothing else was written
  abbrev pub WritesFiles : List (Name × List ℕ) → F → F → Type 0
  WritesFiles [] before after = after ≡ before
  WritesFiles (f ∷ fs) before after = (between : F) × WritesWhole f.0 f.1 before between × WritesFiles fs between after

  -- the files before one of these were given their whole texts, in order, and the write of that one, the last, failed
  abbrev pub FailsInFile : List (Name × List ℕ) → F → F → Type 0
  FailsInFile [] before after = ⊥
  FailsInFile (f ∷ fs) before after = WritesHalf f.0 f.1 before after ⊎ ((between : F) × WritesWhole f.0 f.1 before between × FailsInFile fs between after)

  -- the files before one of these, or before the output, were given their whole texts, in order, and there was no memory for the write
  -- of that one, which changed nothing
  abbrev pub StarvesIn : List (Name × List ℕ) → F → F → Type 0
  StarvesIn [] before after = files after ≡ files before
  StarvesIn (f ∷ fs) before after =
      (writes before f.0 f.1 (Err NoMemory) after × (files after ≡ files before)) ⊎ ((between : F) × WritesWhole f.0 f.1 before between × StarvesIn fs between after)

module _ {F O : Type 0} (writes : F → Name → List ℕ → Result (Unit {0}) FileFail → F → Type 0) (files : F → Told) (puts : O → List ℕ → Bool → O → Type 0) (told : O → Option (List ℕ)) where
  -- a whole text went out: in pieces of 4,096 bytes to the output, or by one write to the file of a name; nothing else changed
  abbrev pub DeliversText : Option Name → F → F → O → O → List ℕ → Type 0
  DeliversText None before after old new text = Sends puts old (pieces_of 4096 text) true new × Appends (told old) (told new) text × (after ≡ before)
  DeliversText (Some name) before after old new text = WritesWhole writes files name text before after × (new ≡ old)

  -- a prefix of a text went out: in pieces of which the last was not taken, or by one write that failed; nothing else changed
  abbrev pub DeliversTextPrefix : Option Name → F → F → O → O → List ℕ → Type 0
  DeliversTextPrefix None before after old new text = Sends puts old (pieces_of 4096 text) false new × AppendsPrefix (told old) (told new) text × (after ≡ before)
  DeliversTextPrefix (Some name) before after old new text = WritesHalf writes files name text before after × (new ≡ old)

  -- each file was given its whole text, in order, and then the whole text went out
  abbrev pub Delivers : Option Name → F → F → O → O → Texts → Type 0
  Delivers output before after old new t = (between : F) × WritesFiles writes files t.files before between × DeliversText output between after old new t.text

  -- the write of a file failed, and nothing went out; or each file was given its whole text, and a prefix of the text went out
  abbrev pub DeliversPrefix : Option Name → F → F → O → O → Texts → Type 0
  DeliversPrefix output before after old new t =
      (FailsInFile writes files t.files before after × (new ≡ old))
      ⊎ ((between : F) × WritesFiles writes files t.files before between × DeliversTextPrefix output between after old new t.text)

-- what goes out with a verdict is what the command makes of its inputs, where these are told
abbrev pub IsMadeOf : Command → Told → Verdict → Texts → Type 0
IsMadeOf c told verdict t = (contents : List (List ℕ)) → AreContents told c.inputs contents → IsAnswer c.work contents (prints verdict t)

module _ {F : Type 0} (writes : F → Name → List ℕ → Result (Unit {0}) FileFail → F → Type 0) (files : F → Told) where
  -- there was no memory for the write of a file, or of the output, where the files before it had been given whole what the command makes of
  -- these sources
  abbrev pub StarvesWith : Command → List (List ℕ) → F → F → Type 0
  StarvesWith c sources before after = (verdict : Verdict) × (made : Texts) × StarvesIn writes files made.files before after × IsAnswer c.work sources (prints verdict made)

-- the same after the inputs were read
abbrev pub Starves : {F : Type 0} → (F → Name → ℕ → Result (List ℕ) FileFail → F → Type 0) → (F → Name → List ℕ → Result (Unit {0}) FileFail → F → Type 0) → (F → Told) → Command → F → F → Type 0
Starves reads writes files c before after = ReadsThen reads files before c.inputs (λ opened sources. StarvesWith writes files c sources opened after)

-- a refusal is the one of its inputs by the command, where these are told
abbrev pub IsRefusalOf : Command → Told → Refusal → Type 0
IsRefusalOf c told r = (contents : List (List ℕ)) → AreContents told c.inputs contents → IsAnswer c.work contents (refuses r)

-- ---- the error message

-- what a line may name: an input, with what is read of it, and the output
pub record Subject : Type 0 where
  pub input : Name
  pub source : List ℕ
  pub output : Option Name

-- where the output goes, as a line shows it
abbrev pub shown_output : Option Name → List ℕ
shown_output None = codes "<stdout>"
shown_output (Some name) = name

-- the end of a line on wrong words, with where in the text of a pipeline they are
abbrev pub usage_end : Option ℕ → List ℕ
usage_end None = codes "\n"
usage_end (Some at) = codes " at offset " ++ (decimal at ++ codes "\n")

-- the line on wrong words
abbrev pub usage_line : UsageKind → List ℕ
usage_line kind = codes "circt: usage: " ++ (usage_text kind ++ usage_end (offset_of kind))

-- the line on memory that was not there
abbrev pub memory_line : List ℕ
memory_line = codes "circt: out of memory\n"

-- the line for an end
abbrev pub line_of : Subject → End → List ℕ
line_of s (usage kind) = usage_line kind
line_of s (answered verdict) = []
line_of s (refused r) = refusal_line s.input s.source r
line_of s read_fault = codes "circt: cannot read " ++ (shown_name s.input ++ codes "\n")
line_of s write_fault = codes "circt: cannot write " ++ (shown_output s.output ++ codes "\n")
line_of s no_memory = memory_line

module _ {S : Type 0} (puts : S → List ℕ → Bool → S → Type 0) (told : S → Option (List ℕ)) (faults : S → ℕ) where
  -- the line goes out piece by piece, up to the first that is not taken, and nothing else does; a sink that meets no fault takes the
  -- line, and one that meets faults a prefix of it
  pub record Reports (before after : S) (line : List ℕ) : Type 0 where
    pub taken : Bool
    pub out : GoesOut puts before line taken after
    pub prefix : AppendsPrefix (told before) (told after) line
    pub whole : ¬ HasRisen (faults before) (faults after) → Appends (told before) (told after) line
    pub kept : faults before ≤ faults after

-- an end out of memory is told by one put, so that no put before it is what it comes of
abbrev pub IsToldAtOnce : {S : Type 0} → (S → List ℕ → Bool → S → Type 0) → End → S → S → Type 0
IsToldAtOnce puts end before after = OnOutOfMemory end ((taken : Bool) × Sends puts before (memory_line ∷ []) taken after)

-- what the line of a command names: of a refusal its input, and what is read of that; of a fault the input that was not read, or the file
-- or the output that was not written
abbrev pub IsSubject : (IsUnread : List Name → Name → Type 0) (IsUnwritten : Command → Option Name → Type 0) → Told → End → Command → Subject → Type 0
IsSubject IsUnread IsUnwritten files (refused r) c s =
    (s.input ≡ name_at r.file c.inputs) × ((contents : List (List ℕ)) → AreContents files c.inputs contents → s.source ≡ bytes_at r.file (prefixes contents))
IsSubject IsUnread IsUnwritten files read_fault c s = In s.input c.inputs × IsUnread c.inputs s.input
IsSubject IsUnread IsUnwritten files write_fault c s = IsUnwritten c s.output
IsSubject IsUnread IsUnwritten files (usage kind) c s = Unit {0}
IsSubject IsUnread IsUnwritten files (answered verdict) c s = Unit {0}
IsSubject IsUnread IsUnwritten files no_memory c s = Unit {0}

-- the line that a sink takes
pub record ReportsEnd {S : Type 0} (puts : S → List ℕ → Bool → S → Type 0) (told : S → Option (List ℕ)) (faults : S → ℕ) (words : List Name) (IsUnread : List Name → Name → Type 0) (IsUnwritten : Command → Option Name → Type 0) (files : Told) (end : End) (before after : S) : Type 0 where
  pub subject : Subject
  pub named : ForCommand words (λ c. IsSubject IsUnread IsUnwritten files end c subject)
  pub reports : Reports puts told faults before after (line_of subject end)
