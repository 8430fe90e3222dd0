-- Regular logs: no step resolves on a variable and then brings it back.
use Rattle.std.specs.Prelude.{Bool, true, ◌&&◌, ◌++◌, List, [], ◌∷◌}
use Rattle.std.specs.List.{list_all}
use Rattle.resolution_proof.specs.declared.literal.Literal.{Literal}
use Rattle.resolution_proof.specs.declared.log.Hint.{Hint}
use Rattle.resolution_proof.specs.declared.log.Step.{Step}
use Rattle.resolution_proof.specs.Formula.{Formula}
use Rattle.resolution_proof.specs.Replay.{clause_at, survives}

-- the clause holds no variable on which one of the hints resolves
abbrev pub avoids : List Hint → List Literal → Bool
avoids hs c = list_all (survives hs) c

-- none of the hints' clauses holds the variable of a pivot before it
abbrev pub is_regular_after : List (List Literal) → List Hint → List Hint → Bool
is_regular_after known earlier [] = true
is_regular_after known earlier (h ∷ hs) = avoids earlier (clause_at known h.clause) && is_regular_after known (earlier ++ h ∷ []) hs

-- the hints of a step: the pivot of the first is not used
abbrev pub is_regular : List (List Literal) → List Hint → Bool
is_regular known [] = true
is_regular known (h ∷ hs) = is_regular_after known [] hs

-- each step over the clauses known before it
abbrev pub is_regular_from : List (List Literal) → List Step → Bool
is_regular_from known [] = true
is_regular_from known (s ∷ ss) = is_regular known s.hints && is_regular_from (known ++ s.clause ∷ []) ss

-- the log is regular over the formula (Robinson, 1965; Tseitin, 1968)
abbrev pub is_regular_log : Formula → List Step → Bool
is_regular_log f log = is_regular_from f.clauses log
