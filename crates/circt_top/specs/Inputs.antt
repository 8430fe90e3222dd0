-- The files that a command reads.
use Rattle.std.specs.Prelude.{◌≡◌, ℕ, ◌+◌, List, [], ◌∷◌, Option, Some, None, Result, Ok, codes, take, map, unwrap_or, slice_get}
use Rattle.wiring.specs.Wiring.{In}
use Rattle.hw_model.specs.Types.{Name}
use Rattle.io_edge.specs.declared.file_access.FileFail.{FileFail}
use Rattle.io_edge.specs.Faults.{HasRisen}
use Rattle.io_edge.specs.Reading.{file_at, Reads}
use Rattle.mlir_reader.specs.Reading.{text_limit}
use Rattle.circt_top.specs.Ends.{End}
use Rattle.circt_top.specs.Ends.End.{read_fault, no_memory}
use Rattle.circt_top.specs.declared.inputs.Unread.{Unread}
use Rattle.circt_top.specs.declared.inputs.Unread.TheVariants.{Fault, NoMemory}

-- ---- what is told of them

-- told files, each a name and its bytes
abbrev pub Told : Type 0
Told = Option (List (Name × List ℕ))

-- how many bytes of a file are read at most: one more than a text may have
abbrev pub read_limit : ℕ
read_limit = text_limit + 1

-- the bytes of a file, where they are told
abbrev pub told_at : Name → Told → Option (List ℕ)
told_at name None = None
told_at name (Some files) = file_at name files

-- files of these names are told, with these contents in order
abbrev pub AreContents : Told → List Name → List (List ℕ) → Type 0
AreContents told [] [] = Unit {0}
AreContents told (name ∷ names) (bytes ∷ contents) = (told_at name told ≡ Some bytes) × AreContents told names contents
AreContents told [] (bytes ∷ contents) = ⊥
AreContents told (name ∷ names) [] = ⊥

-- files are told, and none of them has this name
abbrev pub IsMissing : Name → Told → Type 0
IsMissing name None = ⊥
IsMissing name (Some files) = file_at name files ≡ None

-- one of the names is missing
abbrev pub IsOneMissing : Told → List Name → Type 0
IsOneMissing told names = (name : Name) × In name names × IsMissing name told

-- ---- what is read of them

-- the count of faults of one of the names rose
abbrev pub IsOneRisen : (Name → ℕ) → (Name → ℕ) → List Name → Type 0
IsOneRisen before after names = (name : Name) × In name names × HasRisen (before name) (after name)

-- each source is what one read of the told file of its name may give
abbrev pub AreReads : Told → List Name → List (List ℕ) → Type 0
AreReads told [] [] = Unit {0}
AreReads told (name ∷ names) (source ∷ sources) = Reads told name read_limit (Ok source) × AreReads told names sources
AreReads told [] (source ∷ sources) = ⊥
AreReads told (name ∷ names) [] = ⊥

-- how much is read of contents
abbrev pub prefixes : List (List ℕ) → List (List ℕ)
prefixes contents = map (take read_limit) contents

-- sources are what is read of the told contents
abbrev pub AreReadOf : Told → List Name → List (List ℕ) → Type 0
AreReadOf told names sources = (contents : List (List ℕ)) → AreContents told names contents → sources ≡ prefixes contents

module _ {F : Type 0} (reads : F → Name → ℕ → Result (List ℕ) FileFail → F → Type 0) (files : F → Told) where
  -- one read of the file of each name, in order, gave these sources and changed no file
  abbrev pub HasRead : F → List Name → List (List ℕ) → F → Type 0
  HasRead before [] [] after = after ≡ before
  HasRead before (name ∷ names) (source ∷ sources) after =
      (between : F) × reads before name read_limit (Ok source) between × (files between ≡ files before) × HasRead between names sources after
  HasRead before [] (source ∷ sources) after = ⊥
  HasRead before (name ∷ names) [] after = ⊥

  -- the files of these names were read so, and what follows holds of the files after that and of what was read
  abbrev pub ReadsThen : F → List Name → (F → List (List ℕ) → Type 0) → Type 0
  ReadsThen before names Follows = (after : F) × (sources : List (List ℕ)) × HasRead before names sources after × Follows after sources

-- ---- one of them, by its number

-- the name of an input; no number past the last one is asked for
abbrev pub name_at : ℕ → List Name → Name
name_at number names = unwrap_or (slice_get names number) (codes "-")

-- the bytes of an input, in the same way
abbrev pub bytes_at : ℕ → List (List ℕ) → List ℕ
bytes_at number contents = unwrap_or (slice_get contents number) []

-- ---- inputs that were not read

-- a fact about the name of one that could not be read
abbrev pub OnFault : Unread → (Name → Type 0) → Type 0
OnFault (Fault name) P = P name.now
OnFault NoMemory P = Unit {0}

-- how a run ends of which an input was not read
abbrev pub unread_end : Unread → End
unread_end (Fault name) = read_fault
unread_end NoMemory = no_memory
