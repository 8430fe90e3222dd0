-- Conflict analysis: a resolvent of false literals, told by the variables that it has.
use Rattle.std.specs.Prelude.{ℕ, Bool, false, ◌≡◌, ◌&&◌, cond, ◌+◌, ◌-◌, List, [], ◌∷◌, slice_index_or}
use Rattle.std.specs.List.{list_all}
use Rattle.resolution_proof.specs.declared.literal.Literal.{Literal}
use Rattle.clause_learning.specs.declared.trail.Entry.{Entry}
use Rattle.resolution_proof.specs.Literal.{negation, holds}

-- the variable is marked
abbrev pub is_seen : List Bool → ℕ → Bool
is_seen seen v = slice_index_or seen (v - 1) false

-- the entry's variable is marked
abbrev pub is_seen_entry : List Bool → Entry → Bool
is_seen_entry seen e = is_seen seen e.literal.variable

-- the literal's variable is marked
abbrev pub is_seen_literal : List Bool → Literal → Bool
is_seen_literal seen l = is_seen seen l.variable

-- how many of the entries have a marked variable
abbrev pub count_seen : List Bool → List Entry → ℕ
count_seen seen [] = 0
count_seen seen (e ∷ es) = cond (is_seen_entry seen e) 1 0 + count_seen seen es

-- the set has the negation of each literal of the clause
abbrev pub falsifies : List Literal → List Literal → Bool
falsifies s c = list_all (λ l. holds s (negation l)) c

-- the clause's literals are those of marked variables that the set falsifies
abbrev pub Represents : List Bool → List Literal → List Literal → Type 0
Represents seen s c = (l : Literal) → holds c l ≡ (is_seen seen l.variable && holds s (negation l))
