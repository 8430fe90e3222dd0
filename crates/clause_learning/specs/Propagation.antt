-- What propagation finds.
use Rattle.std.specs.Prelude.{ℕ, true, ◌≡◌, ◌≤◌, List, Option, Some, None}
use Rattle.resolution_proof.specs.declared.literal.Literal.{Literal}
use Rattle.clause_learning.specs.declared.propagation.State.{State}
use Rattle.clause_learning.specs.declared.propagation.State.TheVariants.{Closed, Open, False}
use Rattle.resolution_proof.specs.Literal.{holds}
use Rattle.resolution_proof.specs.Replay.{is_number, clause_at}
use Rattle.resolution_proof.specs.Fresh.{is_closed, is_closed_at, is_unit, is_free, count_free}
use Rattle.clause_learning.specs.Learning.{falsifies}

-- the clause under the set: closed, or with one literal left open, or false
abbrev pub IsState : List Literal → List Literal → State → Type 0
IsState s c Closed = is_closed_at s c ≡ true
IsState s c (Open u) = (holds c u ≡ true) × (is_free s u ≡ true) × (is_unit s u c ≡ true)
IsState s c False = falsifies s c ≡ true

-- the number names a false clause
abbrev pub IsConflict : List (List Literal) → List Literal → ℕ → Type 0
IsConflict known s n = (is_number known n ≡ true) × (falsifies s (clause_at known n) ≡ true)

-- a false clause was found, or nothing is left to propagate
abbrev pub IsOutcome : List (List Literal) → List Literal → Option ℕ → Type 0
IsOutcome known s (Some n) = IsConflict known s n
IsOutcome known s None = is_closed s known ≡ true

-- what the literals read so far are: all false, or all but one that is left open
abbrev pub IsScan : List Literal → List Literal → Option Literal → Type 0
IsScan s c None = falsifies s c ≡ true
IsScan s c (Some u) = (holds c u ≡ true) × (is_free s u ≡ true) × (is_unit s u c ≡ true) × (1 ≤ count_free s c)
