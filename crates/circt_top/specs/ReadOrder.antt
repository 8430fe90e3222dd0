-- What is read of the inputs until each end of a run, and what is written then: nothing is read twice, and no other file.
use Rattle.std.specs.Prelude.{◌≡◌, ℕ, List, [], ◌∷◌, ◌++◌, Option, Some, None, Result, Ok, Err, ◌⊎◌}
use Rattle.hw_model.specs.Types.{Name}
use Rattle.io_edge.specs.declared.file_access.FileFail.{FileFail}
use Rattle.io_edge.specs.declared.file_access.FileFail.TheVariants as fail
use Rattle.io_edge.specs.Faults.{HasRisen}
use Rattle.command_line.specs.Line.{Command, files_before}
use Rattle.command_line.specs.declared.usage.UsageKind.{UsageKind}
use Rattle.circt_top.specs.Words.{line, ForCommand}
use Rattle.circt_top.specs.Inputs.{Told, read_limit, HasRead, ReadsThen}
use Rattle.circt_top.specs.Ends.{End}
use Rattle.circt_top.specs.Ends.End.{usage, answered, refused, read_fault, write_fault, no_memory}
use Rattle.circt_top.specs.declared.inputs.Unread.{Unread}
use Rattle.circt_top.specs.declared.inputs.Unread.TheVariants.{Fault, NoMemory}

-- ---- inputs that were not all read

module _ {F : Type 0} (reads : F → Name → ℕ → Result (List ℕ) FileFail → F → Type 0) (files : F → Told) where
  -- the inputs before one of this name were read once each, in order, and the read of that one, the last, failed so
  pub record StopsAt (before : F) (names : List Name) (name : Name) (failure : FileFail) (after : F) : Type 0 where
    pub earlier : List Name
    pub later : List Name
    pub split : names ≡ earlier ++ name ∷ later
    pub sources : List (List ℕ)
    pub between : F
    pub read : HasRead reads files before earlier sources between
    pub failed : reads between name read_limit (Err failure) after

  -- the first few of the inputs, none or all among them, were read once each, in order
  pub record ReadsFew (before : F) (names : List Name) (after : F) : Type 0 where
    pub earlier : List Name
    pub later : List Name
    pub split : names ≡ earlier ++ later
    pub sources : List (List ℕ)
    pub read : HasRead reads files before earlier sources after

  -- what was read until an input was not
  abbrev pub StopsFor : Unread → F → List Name → F → Type 0
  StopsFor (Fault name) before names after = StopsAt before names name.now fail.Failed after
  StopsFor NoMemory before names after = ReadsFew before names after ⊎ ((name : Name) × StopsAt before names name fail.NoMemory after)

  -- one read that gave nothing: a fault; or there was no memory, in the read or for what it gave
  abbrev pub Misses : F → Name → FileFail → F → Type 0
  Misses before name fail.Failed after = reads before name read_limit (Err fail.Failed) after
  Misses before name fail.NoMemory after =
      reads before name read_limit (Err fail.NoMemory) after ⊎ ((source : List ℕ) × reads before name read_limit (Ok source) after × (files after ≡ files before))

  -- an input of this name is the first that was not read, and its count of faults rose
  abbrev pub IsFirstUnread : (F → Name → ℕ) → F → F → List Name → Name → Type 0
  IsFirstUnread read_faults before after names name = HasRisen (read_faults before name) (read_faults after name) × StopsAt before names name fail.Failed after

-- ---- what is written

module _ {F : Type 0} (writes : F → Name → List ℕ → Result (Unit {0}) FileFail → F → Type 0) where
  -- one write of the file of the output's name, which answered so; nothing where the output is no file
  abbrev pub WritesOnce : Option Name → Result (Unit {0}) FileFail → F → F → Type 0
  WritesOnce None answer before after = after ≡ before
  WritesOnce (Some name) answer before after = (text : List ℕ) × writes before name text answer after

  -- each of these files was written once, in order
  abbrev pub WritesEach : List Name → F → F → Type 0
  WritesEach [] before after = after ≡ before
  WritesEach (name ∷ names) before after = (text : List ℕ) × (between : F) × writes before name text (Ok tt) between × WritesEach names between after

  -- the files before one were each written once, in order, and the write of that one, or of the output, the last, answered so
  abbrev pub FailsAt : FileFail → List Name → Option Name → Option Name → F → F → Type 0
  FailsAt failure [] output target before after = (target ≡ output) × WritesOnce output (Err failure) before after
  FailsAt failure (name ∷ names) output target before after =
      ((target ≡ Some name) × ((text : List ℕ) × writes before name text (Err failure) after))
      ⊎ ((text : List ℕ) × (between : F) × writes before name text (Ok tt) between × FailsAt failure names output target between after)

  -- the files that are written before the output: all that a command's work names, or none
  abbrev pub AreFilesOf : Command → List Name → Type 0
  AreFilesOf c names = (names ≡ []) ⊎ (names ≡ files_before c.work)

  -- a file of a command, or its output, was the first that was not written
  abbrev pub IsFirstUnwritten : FileFail → Command → F → F → Option Name → Type 0
  IsFirstUnwritten failure c before after target = (names : List Name) × AreFilesOf c names × FailsAt failure names c.output target before after

  -- what is written at an end, once all inputs are read
  abbrev pub WritesAt : End → Command → F → F → Type 0
  WritesAt (usage kind) c before after = ⊥
  WritesAt (answered verdict) c before after = (names : List Name) × AreFilesOf c names × ((between : F) × WritesEach names before between × WritesOnce c.output (Ok tt) between after)
  WritesAt (refused r) c before after = after ≡ before
  WritesAt read_fault c before after = ⊥
  WritesAt write_fault c before after = (target : Option Name) × IsFirstUnwritten fail.Failed c before after target
  WritesAt no_memory c before after = (after ≡ before) ⊎ ((target : Option Name) × IsFirstUnwritten fail.NoMemory c before after target)

-- ---- ends

module _ {F : Type 0} (reads : F → Name → ℕ → Result (List ℕ) FileFail → F → Type 0) (files : F → Told) (writes : F → Name → List ℕ → Result (Unit {0}) FileFail → F → Type 0) where
  -- what is read and then written at an end of a command: where an input cannot be read, those before it and then it; where there is no
  -- memory, the first few or all; else all
  abbrev pub ReadsAt : End → Command → F → F → Type 0
  ReadsAt (usage kind) c before after = after ≡ before
  ReadsAt (answered verdict) c before after = ReadsThen reads files before c.inputs (λ opened sources. WritesAt writes (answered verdict) c opened after)
  ReadsAt (refused r) c before after = ReadsThen reads files before c.inputs (λ opened sources. WritesAt writes (refused r) c opened after)
  ReadsAt read_fault c before after = (name : Name) × StopsAt reads files before c.inputs name fail.Failed after
  ReadsAt write_fault c before after = ReadsThen reads files before c.inputs (λ opened sources. WritesAt writes write_fault c opened after)
  ReadsAt no_memory c before after =
      StopsFor reads files NoMemory before c.inputs after ⊎ ReadsThen reads files before c.inputs (λ opened sources. WritesAt writes no_memory c opened after)

  -- what could not be written, once all inputs were read
  abbrev pub IsUnwrittenFrom : F → F → Command → Option Name → Type 0
  IsUnwrittenFrom before after c target = ReadsThen reads files before c.inputs (λ opened sources. IsFirstUnwritten writes fail.Failed c opened after target)

  -- what is read and then written at an end for words: nothing where they are no command
  pub record ReadsFor (words : List Name) (end : End) (before after : F) : Type 0 where
    pub no_command : (kind : UsageKind) → line words ≡ Err kind → after ≡ before
    pub command : ForCommand words (λ c. ReadsAt end c before after)
