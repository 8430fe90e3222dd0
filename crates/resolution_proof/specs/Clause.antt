-- Clauses: a clause is true where one of its literals is.
use Rattle.std.specs.Prelude.{ℕ, Bool, nat_le, not, ◌&&◌, ◌++◌, List}
use Rattle.std.specs.List.{list_all, filter}
use Rattle.resolution_proof.specs.declared.literal.Literal.{Literal}
use Rattle.resolution_proof.specs.Literal.{holds, is_on, is_once}

-- the literal's variable is one of the first `variables`
abbrev pub is_among : ℕ → Literal → Bool
is_among variables l = nat_le 1 l.variable && nat_le l.variable variables

-- each literal's variable is one of the first `variables`
abbrev pub is_within : ℕ → List Literal → Bool
is_within variables c = list_all (is_among variables) c

-- no variable twice, and each is one of the first `variables`
abbrev pub is_clause : ℕ → List Literal → Bool
is_clause variables c = is_once c && is_within variables c

-- each literal of the first set is one of the second
abbrev pub is_subset : List Literal → List Literal → Bool
is_subset a b = list_all (λ l. holds b l) a

-- the sets hold the same literals
abbrev pub is_same_set : List Literal → List Literal → Bool
is_same_set a b = is_subset a b && is_subset b a

-- the set without the literals of a variable
abbrev pub without : ℕ → List Literal → List Literal
without p c = filter (λ l. not (is_on p l)) c

-- the resolvent of two clauses on a variable: the other literals of both
abbrev pub resolvent : ℕ → List Literal → List Literal → List Literal
resolvent p a b = without p a ++ without p b
