-- The clauses that a search knows.
use Rattle.std.specs.Prelude.{true, ◌≡◌, ◌+◌, ◌++◌, List, [], ◌∷◌, length, take, drop}
use Rattle.resolution_proof.specs.declared.literal.Literal.{Literal}
use Rattle.resolution_proof.specs.declared.log.Hint.{Hint}
use Rattle.resolution_proof.specs.declared.log.Step.{Step}
use Rattle.resolution_proof.specs.Formula.{Formula, are_clauses}
use Rattle.resolution_proof.specs.Replay.{learnt_clauses, replay}
use Rattle.resolution_proof.specs.Regular.{is_regular_log}
use Rattle.resolution_proof.specs.Fresh.{Fresh, has_no_empty}

-- what the steps are known to be
pub record IsKept (f : Formula) (steps : List Step) : Type 0 where
  pub clauses : are_clauses f.variables (f.clauses ++ learnt_clauses steps) ≡ true
  pub replays : replay f steps ≡ true
  pub fresh : Fresh f steps
  pub regular : is_regular_log f steps ≡ true
  pub none_empty : has_no_empty steps ≡ true

-- the steps of chains and the clauses that they give
abbrev pub steps_of : List (List Hint) → List (List Literal) → List Step
steps_of [] cs = []
steps_of (h ∷ hs) [] = []
steps_of (h ∷ hs) (c ∷ cs) = record { clause = c; hints = h } ∷ steps_of hs cs

-- the clauses are the formula's and then those that the chains give
pub record IsLogged (f : Formula) (clauses : List (List Literal)) (chains : List (List Hint)) : Type 0 where
  pub given : take (length f.clauses) clauses ≡ f.clauses
  pub count : length clauses ≡ length f.clauses + length chains
  pub kept : IsKept f (steps_of chains (drop (length f.clauses) clauses))
