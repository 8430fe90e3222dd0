-- What a log proves of a formula.
use Rattle.std.specs.Prelude.{ℕ, Bool, ◌≡◌, ◌++◌, ◌<◌, ◌^◌, List, [], ◌∷◌, length, IsTrue}
use Rattle.resolution_proof.specs.declared.log.Step.{Step}
use Rattle.resolution_proof.specs.Formula.{Formula, satisfies}
use Rattle.resolution_proof.specs.Replay.{replay, Follows}
use Rattle.resolution_proof.specs.Regular.{is_regular_log}
use Rattle.resolution_proof.specs.Fresh.{Fresh, has_no_empty, is_new_from}

-- the last step's clause is empty
pub record EndsEmpty (log : List Step) : Type 0 where
  pub earlier : List Step
  pub last : Step
  pub parts : log ≡ earlier ++ last ∷ []
  pub empty : last.clause ≡ []

-- the log replays, is fresh and is regular
pub record IsProof (f : Formula) (log : List Step) : Type 0 where
  pub replays : IsTrue (replay f log)
  pub fresh : Fresh f log
  pub regular : IsTrue (is_regular_log f log)
  pub follows : Follows f log
  pub new : IsTrue (is_new_from f.clauses log)

-- the log ends in the empty clause, so nothing satisfies the formula
pub record Refutes (f : Formula) (log : List Step) : Type 0 where
  pub proof : IsProof f log
  pub ends : EndsEmpty log
  pub unsatisfiable : (bits : List Bool) → ¬ IsTrue (satisfies bits f)

-- as many learnt clauses as the budget allows, none empty, which are fewer than three to the power of the variables
pub record Exhausts (f : Formula) (budget : ℕ) (log : List Step) : Type 0 where
  pub proof : IsProof f log
  pub steps : length log ≡ budget
  pub none_empty : IsTrue (has_no_empty log)
  pub below : budget < 3 ^ f.variables
