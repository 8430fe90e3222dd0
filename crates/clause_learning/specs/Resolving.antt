-- What conflict analysis keeps while it resolves.
use Rattle.std.specs.Prelude.{ℕ, zero, suc, Bool, true, false, ◌≡◌, ◌<◌, ◌≤◌, ◌||◌, ◌&&◌, ◌==◌, ◌++◌, ◌∷◌, ◌-◌, not, List, [], length, take, drop}
use Rattle.resolution_proof.specs.declared.literal.Literal.{Literal}
use Rattle.resolution_proof.specs.declared.log.Hint.{Hint}
use Rattle.resolution_proof.specs.declared.log.Step.{Step}
use Rattle.clause_learning.specs.declared.trail.Entry.{Entry}
use Rattle.resolution_proof.specs.Literal.{mentions}
use Rattle.resolution_proof.specs.Clause.{is_clause}
use Rattle.resolution_proof.specs.Replay.{names_chain, chain_of, derives}
use Rattle.resolution_proof.specs.Regular.{is_regular}
use Rattle.resolution_proof.specs.Fresh.{IsFresh, is_closed, is_empty, is_free, is_unit}
use Rattle.clause_learning.specs.Watching.{literal_at}
use Rattle.clause_learning.specs.Trail.{literals, entry_at, IsSound}
use Rattle.clause_learning.specs.Learning.{is_seen, is_seen_entry, count_seen, Represents}

-- the new marks are the old ones and those of the clause's variables, but for the pivot
abbrev pub AddsMarks : List Bool → List Bool → ℕ → List Literal → Type 0
AddsMarks old new pivot c =
    (v : ℕ) → 1 ≤ v → is_seen new v ≡ (is_seen old v || (not (v == pivot) && mentions c v))

-- the new marks are the old ones and those of the clause's variables, none at the pivot
abbrev pub Resolves : ℕ → List Literal → List Bool → List Bool → Type 0
Resolves pivot c old new =
    (v : ℕ) → 1 ≤ v → is_seen new v ≡ (not (v == pivot) && (is_seen old v || mentions c v))

-- with one literal to keep, propagation from the set was complete
abbrev pub IsLevel : List (List Literal) → List Literal → ℕ → Type 0
IsLevel known s zero = Unit {0}
IsLevel known s (suc n) = (n ≡ 0) × (is_closed s known ≡ true)

-- no entry from the position on is marked
abbrev pub NoneSeen : List Bool → List Entry → ℕ → Type 0
NoneSeen seen es position = (k : ℕ) → position ≤ k → k < length es → is_seen_entry seen (entry_at es k) ≡ false

-- each hint resolves on the variable of an entry from the position on
abbrev pub ArePivotsFrom : List Entry → ℕ → List Hint → Type 0
ArePivotsFrom es position [] = Unit {0}
ArePivotsFrom es position (h ∷ hs) = ((k : ℕ) × (position ≤ k) × (k < length es) × ((entry_at es k).literal.variable ≡ h.pivot)) × ArePivotsFrom es position hs

-- each hint but the first does
abbrev pub HasPivotsFrom : List Entry → ℕ → List Hint → Type 0
HasPivotsFrom es position [] = Unit {0}
HasPivotsFrom es position (h ∷ hs) = ArePivotsFrom es position hs

-- the hints name a chain, and the marks tell the variables of the clause that it gives
pub record IsResolving (known : List (List Literal)) (es : List Entry) (hints : List Hint) (seen : List Bool) : Type 0 where
  pub chain : names_chain known hints ≡ true
  pub regular : is_regular known hints ≡ true
  pub marks : Represents seen (literals es) (chain_of known hints)

-- a learnt clause with its chain, and the position up to which the trail stays
pub record IsLearntClause (variables : ℕ) (known : List (List Literal)) (es : List Entry) (step : Step) (position : ℕ) : Type 0 where
  pub clause : is_clause variables step.clause ≡ true
  pub derived : derives known step.hints step.clause ≡ true
  pub regular : is_regular known step.hints ≡ true
  pub fresh : IsFresh known step.clause
  pub full : is_empty step.clause ≡ false
  pub short : position ≤ length es
  pub sound : IsSound variables (known ++ step.clause ∷ []) (take position es)
  pub free : is_free (literals (take position es)) (literal_at step.clause (length step.clause - 1)) ≡ true
  pub others : is_unit (literals (take position es)) (literal_at step.clause (length step.clause - 1)) step.clause ≡ true

-- the analysis with the entries from the position on done: `count` literals from the floor on are left
pub record IsAnalysis (variables : ℕ) (known : List (List Literal)) (es : List Entry) (floor keep position count : ℕ) (hints : List Hint) (seen : List Bool) : Type 0 where
  pub resolving : IsResolving known es hints seen
  pub counted : count ≡ count_seen seen (drop floor es)
  pub kept : keep ≤ count
  pub none : NoneSeen seen es position
  pub pivots : HasPivotsFrom es position hints
  pub short : position ≤ length es
  pub len : length seen ≡ variables
