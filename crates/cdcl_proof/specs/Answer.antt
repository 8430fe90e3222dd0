-- What the solver's answers say.
use Rattle.std.specs.Prelude.{ℕ, IsTrue}
use Rattle.cdcl_proof.specs.declared.solve.Answer.{Answer}
use Rattle.cdcl_proof.specs.declared.solve.Answer.TheVariants.{Refuted, Satisfied, Spent}
use Rattle.resolution_proof.specs.Formula.{Formula, satisfies}
use Rattle.resolution_proof.specs.Proof.{Refutes, Exhausts}

-- what an answer says of the formula
abbrev pub Answers : Formula → ℕ → Answer → Type 0
Answers f budget (Refuted log) = Refutes f log
Answers f budget (Satisfied bits) = IsTrue (satisfies bits f)
Answers f budget (Spent log) = Exhausts f budget log

-- the formula is refuted or satisfied
abbrev pub IsDecided : Answer → Type 0
IsDecided (Refuted log) = Unit {0}
IsDecided (Satisfied bits) = Unit {0}
IsDecided (Spent log) = ⊥

-- the answer is an assignment that satisfies the formula
abbrev pub IsSatisfied : Formula → Answer → Type 0
IsSatisfied f (Refuted log) = ⊥
IsSatisfied f (Satisfied bits) = IsTrue (satisfies bits f)
IsSatisfied f (Spent log) = ⊥
