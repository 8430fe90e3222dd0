-- What is told of a sink over a writer and of the system's files.
use Rattle.std.specs.Prelude.{ℕ, List, Option}

-- what the writer holds, where that is known, and the faults
pub record WriterState : Type 0 where
  pub told : Option (List ℕ)
  pub faults : ℕ

-- the faults of reads and of writes, each one count for all names
pub record FaultCounts : Type 0 where
  pub reads : ℕ
  pub writes : ℕ
