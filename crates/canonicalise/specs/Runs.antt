-- Runs of settled operations of a body, which a sweep passes over in one step.
use Rattle.std.specs.Prelude.{◌≡◌, ◌⊎◌, ℕ, suc, ◌<◌, true, List, length, Some, slice_get}
use Rattle.canonicalise.specs.declared.runs.Run.{Run}
use Rattle.canonicalise.specs.declared.runs.Runs.{Runs}
use Rattle.ir_store.specs.declared.operation.OpId.{OpId}

-- the operation of an id is one of run r
abbrev pub IsOf : Runs → ℕ → ℕ → Type 0
IsOf rs r id = slice_get rs.of.items id ≡ Some (Some r)

-- run r is this one, and it is whole
pub record IsWhole (rs : Runs) (r : ℕ) (run : Run) : Type 0 where
  pub there : slice_get rs.runs.items r ≡ Some run
  pub whole : run.whole ≡ true

-- an id stands right before another one
pub record AreNext (ids : List ℕ) (x y : ℕ) : Type 0 where
  pub at : ℕ
  pub first : slice_get ids at ≡ Some x
  pub second : slice_get ids (suc at) ≡ Some y

-- an operation of run r is the last one of it, or stands right before another one of it
abbrev pub IsLinked : Runs → List ℕ → ℕ → OpId → ℕ → Type 0
IsLinked rs ids r last id = (id ≡ last.index) ⊎ (next : ℕ) × AreNext ids id next × IsOf rs r next

-- so are all operations of whole runs
pub record AreLinked (rs : Runs) (ids : List ℕ) : Type 0 where
  pub numbered : (r id : ℕ) → IsOf rs r id → r < length rs.runs.items
  pub linked : (r id : ℕ) (run : Run) → IsWhole rs r run → IsOf rs r id → IsLinked rs ids r run.last id

-- a whole run of an operation
pub record HasRun (rs : Runs) (id : ℕ) (run : Run) : Type 0 where
  pub number : ℕ
  pub of : IsOf rs number id
  pub whole : IsWhole rs number run

-- an operation is the last one of the whole run of another one
pub record IsEnd (rs : Runs) (id : ℕ) (end : OpId) : Type 0 where
  pub run : Run
  pub has : HasRun rs id run
  pub last : run.last ≡ end

-- the last run, which is whole, ends right before an operation
pub record IsBefore (rs : Runs) (ids : List ℕ) (id number : ℕ) (run : Run) : Type 0 where
  pub count : length rs.runs.items ≡ suc number
  pub whole : IsWhole rs number run
  pub next : AreNext ids run.last.index id

-- runs are broken, and nothing else becomes of them
pub record Breaks (old new : Runs) : Type 0 where
  pub same : new.of.items ≡ old.of.items
  pub count : length new.runs.items ≡ length old.runs.items
  pub whole : (r : ℕ) (run : Run) → IsWhole new r run → IsWhole old r run

-- an operation is of no whole run
abbrev pub HasNoRun : Runs → ℕ → Type 0
HasNoRun rs id = (run : Run) → HasRun rs id run → ⊥

-- operations of whole runs were some, or are the one of an id
abbrev pub Joins : ℕ → Runs → Runs → Type 0
Joins id old new = (other : ℕ) (run : Run) → HasRun new other run → (other ≡ id) ⊎ (was : Run) × HasRun old other was
