-- What a sweep over pairs leaves.
use Rattle.std.specs.Prelude.{ℕ, true, ◌≡◌, ◌<◌, List, length}
use Rattle.resolution_proof.specs.declared.literal.Literal.{Literal}
use Rattle.cdcl_proof.specs.declared.solve.Search.{Search}
use Rattle.cdcl_proof.specs.declared.sweeping.Move.{Move}
use Rattle.cdcl_proof.specs.declared.sweeping.Move.TheVariants.{Assume, End}
use Rattle.cdcl_proof.specs.declared.sweeping.Trial.{Trial}
use Rattle.cdcl_proof.specs.declared.sweeping.Trial.TheVariants as Trials
use Rattle.cdcl_proof.specs.declared.sweeping.Swept.{Swept}
use Rattle.cdcl_proof.specs.declared.sweeping.Swept.TheVariants as Sweeps
use Rattle.resolution_proof.specs.Clause.{is_among}
use Rattle.resolution_proof.specs.Fresh.{is_free}
use Rattle.clause_learning.specs.Trail.{literals, NoDecision}
use Rattle.clause_learning.specs.Propagation.{IsConflict}

-- the literal's variable is one of the first `variables`, and the set does not hold it
abbrev pub IsOpen : ℕ → List Literal → Literal → Type 0
IsOpen variables s l = (is_among variables l ≡ true) × (is_free s l ≡ true)

-- what is assumed is open
abbrev pub CanMove : ℕ → List Literal → Move → Type 0
CanMove variables s (Assume l) = IsOpen variables s l
CanMove variables s (End o) = Unit {0}

-- the clause of the number is false, and there is no decision to take back
abbrev pub IsEnd : Search → ℕ → Type 0
IsEnd s n = IsConflict s.watched.clauses (literals s.watched.entries) n × NoDecision s.watched.entries 0 (length s.watched.entries)

-- what a trial leaves
abbrev pub IsTried : ℕ → Search → Trial → Type 0
IsTried budget s (Trials.Ended o) = length s.chains.items < budget
IsTried budget s (Trials.Conflict n) = IsEnd s n
IsTried budget s Trials.Spent = length s.chains.items ≡ budget

-- what a sweep leaves
abbrev pub IsSwept : ℕ → Search → Swept → Type 0
IsSwept budget s Sweeps.Open = length s.chains.items < budget
IsSwept budget s (Sweeps.Conflict n) = IsEnd s n
IsSwept budget s Sweeps.Spent = length s.chains.items ≡ budget
