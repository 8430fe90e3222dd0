-- What the state of propagation keeps.
use Rattle.std.specs.Prelude.{ℕ, true, false, ◌≡◌, ◌<◌, ◌≤◌, ◌+◌, List, length, slice_index_or, take, swap_remove}
use Rattle.resolution_proof.specs.declared.literal.Literal.{Literal}
use Rattle.clause_learning.specs.declared.trail.Entry.{Entry}
use Rattle.clause_learning.specs.declared.watcher.Watcher.{Watcher}
use Rattle.clause_learning.specs.declared.stored_clause_state.StoredClauseState.{StoredClauseState}
use Rattle.clause_learning.specs.declared.stored_clause_state.StoredClauseState.TheVariants.{Satisfied, Open, Implied, False}
use Rattle.clause_learning.specs.declared.watcher.Visit.{Visit}
use Rattle.clause_learning.specs.declared.watcher.Visit.TheVariants.{Stays, Moved, Conflict}
use Rattle.resolution_proof.specs.Literal.{negation, holds}
use Rattle.resolution_proof.specs.Fresh.{is_free, is_unit}
use Rattle.clause_learning.specs.Learning.{falsifies}
use Rattle.clause_learning.specs.Propagation.{IsConflict}
use Rattle.clause_learning.specs.Trail.{literals}
use Rattle.clause_learning.specs.Table.{IsTable}
use Rattle.clause_learning.specs.Watching.{AreCovered, AreMarks, ArePermuted, HasSameClauses, is_satisfied, stored_clause_at, list_at, watch_at, literal_at, no_watch}

-- how far propagation has come: up to the head each false watch is covered, and the first short clauses are true
pub record IsProgress (stored_clauses : List (List Literal)) (short : List ℕ) (entries : List Entry) (head : ℕ) (marks : List ℕ) (short_head base : ℕ) : Type 0 where
  pub head_in : head ≤ length entries
  pub covered : AreCovered (literals (take head entries)) (literals entries) stored_clauses
  pub marked : AreMarks stored_clauses entries head marks
  pub short_head_in : short_head ≤ length short
  pub base_in : base ≤ length entries
  pub short_true : (j : ℕ) → j < short_head → is_satisfied (literals (take base entries)) (stored_clause_at stored_clauses (slice_index_or short j 0)) ≡ true

-- the clauses are watched, and what was read is covered
pub record IsWatching (w : Watcher) : Type 0 where
  pub table : IsTable w.table
  pub variables : w.trail.variables ≡ w.table.variables
  pub progress : IsProgress w.table.stored_clauses.items w.table.short.items w.trail.entries w.head w.marks.items w.short_head w.base

-- a stored clause under the set, of which one of the first two literals is false
abbrev pub IsStoredClauseState : List Literal → List Literal → StoredClauseState → Type 0
IsStoredClauseState s stored_clause Satisfied = is_satisfied s stored_clause ≡ true
IsStoredClauseState s stored_clause (Open k) = (2 ≤ k) × (k < length stored_clause) × (holds s (negation (literal_at stored_clause k)) ≡ false)
IsStoredClauseState s stored_clause (Implied u) = (holds stored_clause u ≡ true) × (is_free s u ≡ true) × (is_unit s u stored_clause ≡ true)
IsStoredClauseState s stored_clause False = falsifies s stored_clause ≡ true

-- what a visit of the watch at the position leaves
abbrev pub IsVisit : Watcher → Watcher → ℕ → ℕ → Visit → Type 0
IsVisit old new slot position Stays =
    (new.table.stored_clauses.items ≡ old.table.stored_clauses.items) × HasSameClauses (list_at old.table.lists.items slot) (list_at new.table.lists.items slot)
    × (is_satisfied (literals new.trail.entries) (stored_clause_at old.table.stored_clauses.items (watch_at (list_at old.table.lists.items slot) position).clause) ≡ true)
IsVisit old new slot position Moved =
    ArePermuted old.table.stored_clauses.items new.table.stored_clauses.items × (list_at new.table.lists.items slot ≡ swap_remove (list_at old.table.lists.items slot) position no_watch)
IsVisit old new slot position Conflict = IsConflict new.table.clauses.items (literals new.trail.entries) ((watch_at (list_at old.table.lists.items slot) position).clause + 1)
