-- What a table of clauses keeps.
use Rattle.std.specs.Prelude.{ℕ, true, ◌≡◌, ◌==◌, ◌<◌, ◌≤◌, ◌+◌, ◌*◌, ◌^◌, ◌++◌, List, [], ◌∷◌, length, slice_index_or}
use Rattle.resolution_proof.specs.declared.literal.Literal.{Literal}
use Rattle.clause_learning.specs.declared.stored_clause.Watch.{Watch}
use Rattle.clause_learning.specs.declared.table.Table.{Table}
use Rattle.resolution_proof.specs.Formula.{are_clauses}
use Rattle.clause_learning.specs.Watching.{AreStored, AreWatched, HaveBlockers, AreShort, added_lists, literal_at, slot_of}

-- the stored clauses are those of the clauses, and each clause is watched or short
pub record IsTable (t : Table) : Type 0 where
  pub small : t.variables < 2 ^ 31
  pub many : length t.stored_clauses.items < 2 ^ 32
  pub clauses : are_clauses t.variables t.clauses.items ≡ true
  pub stored_clauses : AreStored t.clauses.items t.stored_clauses.items
  pub slots : length t.lists.items ≡ 2 * t.variables + 2
  pub watched : AreWatched t.stored_clauses.items t.lists.items
  pub blockers : HaveBlockers t.stored_clauses.items t.lists.items
  pub short : AreShort t.stored_clauses.items t.short.items

-- a clause has come into the lists of its first two literals, or into the list of short ones
pub record IsEntered (old new : List (List Watch)) (old_short new_short : List ℕ) (i : ℕ) (ordered : List Literal) : Type 0 where
  pub watched : 2 ≤ length ordered → (new ≡ added_lists old (slot_of (literal_at ordered 0)) (slot_of (literal_at ordered 1)) i (literal_at ordered 0) (literal_at ordered 1) (length ordered == 2)) × (new_short ≡ old_short)
  pub listed : length ordered < 2 → (new ≡ old) × (new_short ≡ old_short ++ i ∷ [])

-- one clause more
pub record HasAdded (old new : Table) (clause ordered : List Literal) : Type 0 where
  pub clauses : new.clauses.items ≡ old.clauses.items ++ clause ∷ []
  pub stored_clauses : new.stored_clauses.items ≡ old.stored_clauses.items ++ ordered ∷ []
  pub short : (j : ℕ) → j < length old.short.items → slice_index_or new.short.items j 0 ≡ slice_index_or old.short.items j 0
  pub longer : length old.short.items ≤ length new.short.items

-- the clauses, their stored clauses and those that are short are as before
pub record IsUnchanged (old new : Table) : Type 0 where
  pub clauses : new.clauses.items ≡ old.clauses.items
  pub stored_clauses : new.stored_clauses.items ≡ old.stored_clauses.items
  pub short : new.short.items ≡ old.short.items
