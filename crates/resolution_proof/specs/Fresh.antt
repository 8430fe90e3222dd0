-- Fresh logs: a step's clause has a literal that propagation from the negations of the others does not give.
use Rattle.std.specs.Prelude.{ℕ, Bool, true, false, ◌≡◌, nat_le, not, cond, ◌||◌, ◌&&◌, ◌+◌, ◌++◌, List, [], ◌∷◌}
use Rattle.std.specs.List.{list_all, list_any}
use Rattle.resolution_proof.specs.declared.literal.Literal.{Literal}
use Rattle.resolution_proof.specs.declared.log.Step.{Step}
use Rattle.resolution_proof.specs.Literal.{negation, same, holds, mentions, is_once}
use Rattle.resolution_proof.specs.Clause.{is_subset}
use Rattle.resolution_proof.specs.Formula.{Formula}

-- the set does not hold the literal's variable
abbrev pub is_free : List Literal → Literal → Bool
is_free s l = not (mentions s l.variable)

-- how many literals of the clause are of variables that the set does not hold
abbrev pub count_free : List Literal → List Literal → ℕ
count_free s [] = 0
count_free s (l ∷ ls) = cond (is_free s l) 1 0 + count_free s ls

-- propagation from the set has nothing to do at the clause: the clause has a literal of the set, or two literals
-- of variables that the set does not hold
abbrev pub is_closed_at : List Literal → List Literal → Bool
is_closed_at s c = list_any (holds s) c || nat_le 2 (count_free s c)

-- propagation from the set gives nothing more and no conflict
abbrev pub is_closed : List Literal → List (List Literal) → Bool
is_closed s clauses = list_all (is_closed_at s) clauses

-- the set holds the negation of each literal of the clause but one
abbrev pub is_unit : List Literal → Literal → List Literal → Bool
is_unit s u c = list_all (λ l. same l u || holds s (negation l)) c

-- a closed set, and a literal of the clause that it leaves open though it falsifies all others
pub record IsFresh (known : List (List Literal)) (c : List Literal) : Type 0 where
  pub set : List Literal
  pub literal : Literal
  pub once : is_once set ≡ true
  pub closed : is_closed set known ≡ true
  pub within : holds c literal ≡ true
  pub others : is_unit set literal c ≡ true
  pub free : is_free set literal ≡ true

-- the clause has no literal
abbrev pub is_empty : List Literal → Bool
is_empty [] = true
is_empty (l ∷ ls) = false

-- no step's clause is empty
abbrev pub has_no_empty : List Step → Bool
has_no_empty log = list_all (λ s. not (is_empty s.clause)) log

-- each step's clause that is not empty is fresh among the clauses before it
abbrev pub FreshFrom : List (List Literal) → List Step → Type 0
FreshFrom known [] = Unit {0}
FreshFrom known (s ∷ ss) = (is_empty s.clause ≡ false → IsFresh known s.clause) × FreshFrom (known ++ s.clause ∷ []) ss

-- the log is fresh over the formula
abbrev pub Fresh : Formula → List Step → Type 0
Fresh f log = FreshFrom f.clauses log

-- no clause of the list is part of the clause
abbrev pub is_new : List (List Literal) → List Literal → Bool
is_new known c = list_all (λ k. not (is_subset k c)) known

-- no step's clause, but for the empty one, contains a clause from before it
abbrev pub is_new_from : List (List Literal) → List Step → Bool
is_new_from known [] = true
is_new_from known (s ∷ ss) = (is_empty s.clause || is_new known s.clause) && is_new_from (known ++ s.clause ∷ []) ss
