-- Where the writes of files stop.
use Rattle.std.specs.Prelude.{◌≡◌, ℕ, List, Option, Some, Result, Err, map}
use Rattle.hw_model.specs.Types.{Name}
use Rattle.io_edge.specs.declared.file_access.FileFail.{FileFail}
use Rattle.io_edge.specs.declared.file_access.FileFail.TheVariants.{Failed, NoMemory}
use Rattle.io_edge.specs.Faults.{HasRisen}
use Rattle.circt_top.specs.Inputs.{Told, IsOneRisen}
use Rattle.circt_top.specs.Answer.{WritesHalf, FailsInFile, StarvesIn}
use Rattle.circt_top.specs.ReadOrder.{FailsAt}
use Rattle.circt_top.specs.declared.delivery.UnwrittenFile.{UnwrittenFile}

-- the names of files
abbrev pub names_in : List (Name × List ℕ) → List Name
names_in fs = map (λ f. f.0) fs

module _ {F : Type 0} (writes : F → Name → List ℕ → Result (Unit {0}) FileFail → F → Type 0) (files : F → Told) (write_faults : F → Name → ℕ) where
  -- one write of a file that failed, or had no memory
  abbrev pub FailsSo : FileFail → Name × List ℕ → F → F → Type 0
  FailsSo Failed f before after = WritesHalf writes files f.0 f.1 before after × HasRisen (write_faults before f.0) (write_faults after f.0)
  FailsSo NoMemory f before after = writes before f.0 f.1 (Err NoMemory) after × (files after ≡ files before)

  abbrev pub IsUnwrittenFile : Name × List ℕ → UnwrittenFile → F → F → Type 0
  IsUnwrittenFile f u before after = (u.name.now ≡ f.0) × FailsSo u.fail f before after

  -- writes of these files up to the first that failed, or had no memory
  abbrev pub StopsSo : FileFail → List (Name × List ℕ) → F → F → Type 0
  StopsSo Failed fs before after = FailsInFile writes files fs before after × IsOneRisen (write_faults before) (write_faults after) (names_in fs)
  StopsSo NoMemory fs before after = StarvesIn writes files fs before after

  abbrev pub IsStopped : List (Name × List ℕ) → UnwrittenFile → F → F → Type 0
  IsStopped fs u before after =
      StopsSo u.fail fs before after × ((output : Option Name) → FailsAt writes u.fail (names_in fs) output (Some u.name.now) before after)
