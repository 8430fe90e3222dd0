-- Watched literals (Moskewicz et al., Chaff, 2001): propagation reads a clause only when a literal that it watches
-- has become false.
use Rattle.std.specs.Prelude.{ℕ, Bool, true, false, ◌≡◌, ◌<◌, ◌≤◌, cond, ◌==◌, ◌+◌, ◌*◌, ◌++◌, List, [], ◌∷◌, Some, length, slice_index_or, slice_set, take, sum_by}
use Rattle.std.specs.List.{list_any}
use Rattle.resolution_proof.specs.declared.literal.Literal.{Literal}
use Rattle.clause_learning.specs.declared.stored_clause.Watch.{Watch}
use Rattle.clause_learning.specs.declared.trail.Entry.{Entry}
use Rattle.resolution_proof.specs.Literal.{negation, holds}
use Rattle.resolution_proof.specs.Fresh.{is_free}
use Rattle.clause_learning.specs.Trail.{literals, entry_at, Implies}

-- clauses, numbered from 1, and the trail's literals with their reasons, in order
pub record Watching : Type 0 where
  pub variables : ℕ
  pub clauses : List (List Literal)
  pub entries : List Entry

-- a literal for no position
abbrev pub no_literal : Literal
no_literal = record { variable = 0; positive = false }

-- a watch for no position
abbrev pub no_watch : Watch
no_watch = record { clause = 0; blocker = no_literal; is_binary = false }

-- the position of the literal's list among the watch lists
abbrev pub slot_of : Literal → ℕ
slot_of l = 2 * l.variable + cond l.positive 1 0

-- the literal of the stored clause at a position
abbrev pub literal_at : List Literal → ℕ → Literal
literal_at stored_clause k = slice_index_or stored_clause k no_literal

-- the stored clause, the list and the watch at a position
abbrev pub stored_clause_at : List (List Literal) → ℕ → List Literal
stored_clause_at stored_clauses i = slice_index_or stored_clauses i []

abbrev pub list_at : List (List Watch) → ℕ → List Watch
list_at lists s = slice_index_or lists s []

abbrev pub watch_at : List Watch → ℕ → Watch
watch_at ws k = slice_index_or ws k no_watch

-- the stored clause has the literals of the clause, in any order, no variable twice
pub record IsStored (clause stored_clause : List Literal) : Type 0 where
  pub len : length stored_clause ≡ length clause
  pub same : (l : Literal) → holds stored_clause l ≡ holds clause l
  pub apart : (j k : ℕ) → j < length stored_clause → k < length stored_clause → (literal_at stored_clause j).variable ≡ (literal_at stored_clause k).variable → j ≡ k

-- there is a stored clause for each clause
pub record AreStored (clauses stored_clauses : List (List Literal)) : Type 0 where
  pub count : length stored_clauses ≡ length clauses
  pub each : (i : ℕ) → i < length clauses → IsStored (stored_clause_at clauses i) (stored_clause_at stored_clauses i)

-- how often the clause of the index stands in a list
abbrev pub count_of : ℕ → List Watch → ℕ
count_of i ws = sum_by (λ (w : Watch). cond (w.clause == i) 1 0) ws

-- how often a clause stands in the list at a slot: once in those of its first two literals
abbrev pub watch_count : List Literal → ℕ → ℕ
watch_count [] s = 0
watch_count (a ∷ []) s = 0
watch_count (a ∷ b ∷ rest) s = cond (slot_of a == s) 1 0 + cond (slot_of b == s) 1 0

-- each clause of two literals or more stands in the lists of exactly two of its literals
abbrev pub AreWatched : List (List Literal) → List (List Watch) → Type 0
AreWatched stored_clauses lists = (i s : ℕ) → s < length lists → count_of i (list_at lists s) ≡ watch_count (stored_clause_at stored_clauses i) s

-- each watch names a literal of its clause
abbrev pub HaveBlockers : List (List Literal) → List (List Watch) → Type 0
HaveBlockers stored_clauses lists = (s k : ℕ) → s < length lists → k < length (list_at lists s) → holds (stored_clause_at stored_clauses (watch_at (list_at lists s) k).clause) (watch_at (list_at lists s) k).blocker ≡ true

-- the lists once a clause has come into two of them, with whether it has these two literals alone
abbrev pub added_lists : List (List Watch) → ℕ → ℕ → ℕ → Literal → Literal → Bool → List (List Watch)
added_lists lists a b i x y is_binary = slice_set (slice_set lists a (list_at lists a ++ record { clause = i; blocker = y; is_binary = is_binary } ∷ [])) b (list_at lists b ++ record { clause = i; blocker = x; is_binary = is_binary } ∷ [])

-- a literal of the stored clause is true
abbrev pub is_satisfied : List Literal → List Literal → Bool
is_satisfied s stored_clause = list_any (holds s) stored_clause

-- where the first set falsifies a watched literal, the second satisfies the stored clause
abbrev pub IsCovered : List Literal → List Literal → List Literal → Type 0
IsCovered before all stored_clause = (k : ℕ) → k < 2 → 2 ≤ length stored_clause → holds before (negation (literal_at stored_clause k)) ≡ true → is_satisfied all stored_clause ≡ true

abbrev pub AreCovered : List Literal → List Literal → List (List Literal) → Type 0
AreCovered before all stored_clauses = (i : ℕ) → IsCovered before all (stored_clause_at stored_clauses i)

-- the clauses of fewer than two literals are in the list, and only these
pub record AreShort (stored_clauses : List (List Literal)) (short : List ℕ) : Type 0 where
  pub each : (i : ℕ) → i < length stored_clauses → length (stored_clause_at stored_clauses i) < 2 → (j : ℕ) × (j < length short) × (slice_index_or short j 0 ≡ i)
  pub only : (j : ℕ) → j < length short → (slice_index_or short j 0 < length stored_clauses) × (length (stored_clause_at stored_clauses (slice_index_or short j 0)) < 2)

-- the watches are of the same clauses
pub record HasSameClauses (old new : List Watch) : Type 0 where
  pub len : length new ≡ length old
  pub same : (k : ℕ) → (watch_at new k).clause ≡ (watch_at old k).clause

-- the stored clauses have the same literals
abbrev pub ArePermuted : List (List Literal) → List (List Literal) → Type 0
ArePermuted old new = (i : ℕ) (l : Literal) → holds (stored_clause_at new i) l ≡ holds (stored_clause_at old i) l

-- the positions up to which propagation was complete, in order: nothing before such a position needs to be read again
pub record AreMarks (stored_clauses : List (List Literal)) (entries : List Entry) (head : ℕ) (marks : List ℕ) : Type 0 where
  pub sorted : (j k : ℕ) → j ≤ k → k < length marks → slice_index_or marks j 0 ≤ slice_index_or marks k 0
  pub below : (j : ℕ) → j < length marks → slice_index_or marks j 0 ≤ head
  pub covered : (j : ℕ) → j < length marks → AreCovered (literals (take (slice_index_or marks j 0) entries)) (literals (take (slice_index_or marks j 0) entries)) stored_clauses

-- the entries after the old ones are each implied by a clause, which is their reason
pub record Propagates (clauses : List (List Literal)) (old new : List Entry) : Type 0 where
  pub longer : length old ≤ length new
  pub kept : take (length old) new ≡ old
  pub implied : (k : ℕ) → length old ≤ k → k < length new → (n : ℕ) × ((entry_at new k).reason ≡ Some n) × Implies clauses n (literals (take k new)) (entry_at new k).literal
  pub free : (k : ℕ) → length old ≤ k → k < length new → is_free (literals (take k new)) (entry_at new k).literal ≡ true

-- the first watches of a list are of clauses that the set satisfies
abbrev pub AreVisited : List Literal → List (List Literal) → List Watch → ℕ → Type 0
AreVisited s stored_clauses list position = (k : ℕ) → k < position → is_satisfied s (stored_clause_at stored_clauses (watch_at list k).clause) ≡ true
