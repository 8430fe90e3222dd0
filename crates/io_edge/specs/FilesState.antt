-- Files in memory: what they are, and what a read or a write answers and leaves.
use Rattle.std.specs.Prelude.{◌≡◌, ℕ, Bool, true, false, List, [], take, Option, None, Some, IsSome, Result, Ok, Err, is_some, ◌==◌, if◌then◌else◌}
use Rattle.std.specs.Option.{option_map}
use Rattle.std.specs.List.{list_any}
use Rattle.io_edge.specs.Faults.{next_count}
use Rattle.io_edge.specs.Reading.{file_at}
use Rattle.io_edge.specs.Writing.{with_file}
use Rattle.io_edge.specs.declared.file_access.FileFail.{FileFail}
use Rattle.io_edge.specs.declared.file_access.FileFail.TheVariants.{Failed, NoMemory}

-- `failing` are the reads that are to fail, by their positions from 0 on, and `reads` is the position of the next read; so too
-- for writes
pub record FilesState : Type 0 where
  pub files : List (List ℕ × List ℕ)
  pub failing : List ℕ
  pub reads : ℕ
  pub read_faults : ℕ
  pub failing_writes : List ℕ
  pub writes : ℕ
  pub write_faults : ℕ

-- these files, of which no read and no write is to fail
abbrev pub without_faults : List (List ℕ × List ℕ) → FilesState
without_faults files = record {
  files = files;
  failing = [];
  reads = 0;
  read_faults = 0;
  failing_writes = [];
  writes = 0;
  write_faults = 0;
}

-- what the next read is to answer; None is a fault, at a read that is to fail and at an unknown name
abbrev pub expected_read : FilesState → List ℕ → ℕ → Option (List ℕ)
expected_read state name limit =
    if list_any (λ position. position == state.reads) state.failing then None else option_map (take limit) (file_at name state.files)

-- the files after a read
abbrev pub after_read : FilesState → List ℕ → ℕ → FilesState
after_read state name limit =
    record state {
      reads = next_count state.reads;
      read_faults = if is_some (expected_read state name limit) then state.read_faults else next_count state.read_faults;
    }

-- a read answers what is wanted, a fault where nothing is, and out of memory only in place of a text
abbrev pub IsAnswer : Option (List ℕ) → Result (List ℕ) FileFail → Type 0
IsAnswer expected_read (Ok text) = expected_read ≡ Some text
IsAnswer expected_read (Err Failed) = expected_read ≡ None
IsAnswer expected_read (Err NoMemory) = IsSome expected_read

-- whether the next write is to fail
abbrev pub fails_next : FilesState → Bool
fails_next state = list_any (λ position. position == state.writes) state.failing_writes

-- the files after a write that answered so
abbrev pub after_write : {T : Type 0} → FilesState → List ℕ → List ℕ → Result T FileFail → FilesState
after_write state name bytes (Ok value) = record state { files = with_file name bytes state.files; writes = next_count state.writes }
after_write state name bytes (Err Failed) = record state { writes = next_count state.writes; write_faults = next_count state.write_faults }
after_write state name bytes (Err NoMemory) = record state { writes = next_count state.writes }

-- a write answers with a fault exactly where one is to come, out of memory coming only in the place of success
abbrev pub IsWriteAnswer : {T : Type 0} → Bool → Result T FileFail → Type 0
IsWriteAnswer fails (Ok value) = fails ≡ false
IsWriteAnswer fails (Err Failed) = fails ≡ true
IsWriteAnswer fails (Err NoMemory) = fails ≡ false
