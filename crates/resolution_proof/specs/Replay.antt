-- Logs that replay: each step's clause comes from the clauses before it by a chain of resolutions.
use Rattle.std.specs.Prelude.{ℕ, Bool, true, false, nat_le, not, ◌&&◌, ◌||◌, ◌-◌, ◌++◌, List, [], ◌∷◌, length, slice_index_or, map, IsTrue}
use Rattle.std.proofs.Math.Bool.{beq}
use Rattle.std.specs.List.{list_all}
use Rattle.resolution_proof.specs.declared.literal.Literal.{Literal}
use Rattle.resolution_proof.specs.declared.log.Hint.{Hint}
use Rattle.resolution_proof.specs.declared.log.Step.{Step}
use Rattle.resolution_proof.specs.Literal.{negation, is_on, holds, mentions}
use Rattle.resolution_proof.specs.Clause.{is_same_set, resolvent}
use Rattle.resolution_proof.specs.Formula.{Formula, makes_true, satisfies}

-- the steps' clauses
abbrev pub learnt_clauses : List Step → List (List Literal)
learnt_clauses log = map (λ s. s.clause) log

-- the number names a clause: they are numbered from 1
abbrev pub is_number : List (List Literal) → ℕ → Bool
is_number known n = nat_le 1 n && nat_le n (length known)

-- the clause of that number
abbrev pub clause_at : List (List Literal) → ℕ → List Literal
clause_at known n = slice_index_or known (n - 1) []

-- the second clause's literals of the variable, and no others, are opposite to literals of the first
abbrev pub opposes : ℕ → List Literal → List Literal → Bool
opposes p a b = list_all (λ l. beq (is_on p l) (holds a (negation l))) b

-- the clauses can be resolved on the variable: their literals of it are opposite, and no others are
abbrev pub is_clash : ℕ → List Literal → List Literal → Bool
is_clash p a b = mentions b p && opposes p a b

-- the hint names a clause that can be resolved with the first on the pivot
abbrev pub fits : List (List Literal) → List Literal → Hint → Bool
fits known a h = is_number known h.clause && is_clash h.pivot a (clause_at known h.clause)

-- what the hint makes of a clause
abbrev pub resolvent_by : List (List Literal) → List Literal → Hint → List Literal
resolvent_by known a h = resolvent h.pivot a (clause_at known h.clause)

-- from the clause on, each hint names a resolution
abbrev pub is_chain : List (List Literal) → List Literal → List Hint → Bool
is_chain known a [] = true
is_chain known a (h ∷ hs) = fits known a h && is_chain known (resolvent_by known a h) hs

-- the last clause of the chain
abbrev pub chain_end : List (List Literal) → List Literal → List Hint → List Literal
chain_end known a [] = a
chain_end known a (h ∷ hs) = chain_end known (resolvent_by known a h) hs

-- none of the hints resolves on the literal's variable
abbrev pub survives : List Hint → Literal → Bool
survives hs l = list_all (λ h. not (is_on h.pivot l)) hs

-- each literal that the hints leave of the part is one of the clause
abbrev pub covers : List Hint → List Literal → List Literal → Bool
covers hs c part = list_all (λ l. not (survives hs l) || holds c l) part

-- the last clause of the chain that the hints name
abbrev pub chain_of : List (List Literal) → List Hint → List Literal
chain_of known [] = []
chain_of known (h ∷ hs) = chain_end known (clause_at known h.clause) hs

-- the hints name a chain of resolutions
abbrev pub names_chain : List (List Literal) → List Hint → Bool
names_chain known [] = false
names_chain known (h ∷ hs) = is_number known h.clause && is_chain known (clause_at known h.clause) hs

-- the hints name a chain of resolutions that ends in the clause
abbrev pub derives : List (List Literal) → List Hint → List Literal → Bool
derives known hints c = names_chain known hints && is_same_set (chain_of known hints) c

-- each step comes from the clauses known before it
abbrev pub replays_from : List (List Literal) → List Step → Bool
replays_from known [] = true
replays_from known (s ∷ ss) = derives known s.hints s.clause && replays_from (known ++ s.clause ∷ []) ss

-- the log replays over the formula
abbrev pub replay : Formula → List Step → Bool
replay f log = replays_from f.clauses log

-- every assignment that satisfies the formula makes each step's clause true
abbrev pub Follows : Formula → List Step → Type 0
Follows f log = (bits : List Bool) → IsTrue (satisfies bits f) → IsTrue (list_all (makes_true bits) (learnt_clauses log))
