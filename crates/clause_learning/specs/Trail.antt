-- The trail of a search: the literals assumed or implied so far, oldest first.
use Rattle.std.specs.Prelude.{ℕ, suc, Bool, true, false, ◌≡◌, ◌<◌, ◌≤◌, cond, ◌-◌, List, Option, Some, None, length, slice_index_or, take, drop, map, MatchOption, is_some}
use Rattle.resolution_proof.specs.declared.literal.Literal.{Literal}
use Rattle.clause_learning.specs.declared.trail.Entry.{Entry}
use Rattle.clause_learning.specs.declared.trail.Mark.{Mark}
use Rattle.resolution_proof.specs.Literal.{negation, holds, mentions}
use Rattle.resolution_proof.specs.Clause.{is_among}
use Rattle.resolution_proof.specs.Fresh.{is_free, is_closed, is_unit}
use Rattle.resolution_proof.specs.Replay.{is_number, clause_at}

-- the number of variables, and the entries, oldest first
pub record Path : Type 0 where
  pub variables : ℕ
  pub entries : List Entry

-- the literals of the entries
abbrev pub literals : List Entry → List Literal
literals es = map (λ e. e.literal) es

-- an entry for no position
abbrev pub no_entry : Entry
no_entry = record { literal = record { variable = 0; positive = false }; reason = None }

-- the entry at a position
abbrev pub entry_at : List Entry → ℕ → Entry
entry_at es k = slice_index_or es k no_entry

-- the value that the set gives a literal
abbrev pub value_of : List Literal → Literal → Option Bool
value_of s l = cond (holds s l) (Some true) (cond (holds s (negation l)) (Some false) None)

-- the clause of the number implies the literal once the set holds
pub record Implies (known : List (List Literal)) (n : ℕ) (s : List Literal) (l : Literal) : Type 0 where
  pub number : is_number known n ≡ true
  pub within : holds (clause_at known n) l ≡ true
  pub others : is_unit s l (clause_at known n) ≡ true

-- why an entry comes after those before it: propagation was complete before a decision, and a clause implies
-- every other literal
abbrev pub Why : List (List Literal) → List Literal → Entry → Type 0
Why known s e = MatchOption e.reason (is_closed s known ≡ true) (λ n. Implies known n s e.literal)

-- what an entry is known to be after those before it
pub record Stands (variables : ℕ) (known : List (List Literal)) (before : List Entry) (e : Entry) : Type 0 where
  pub among : is_among variables e.literal ≡ true
  pub free : is_free (literals before) e.literal ≡ true
  pub why : Why known (literals before) e

-- each entry stands after those before it
abbrev pub IsSound : ℕ → List (List Literal) → List Entry → Type 0
IsSound variables known es = (k : ℕ) → k < length es → Stands variables known (take k es) (entry_at es k)

-- the mark of the variable with this index is that of its entry
abbrev pub Marks : List (Option Mark) → List Entry → Type 0
Marks marks es = (k : ℕ) → k < length es → (slice_index_or marks ((entry_at es k).literal.variable - 1) None ≡ Some (record { positive = (entry_at es k).literal.positive; position = k }))

-- the marks and the entries tell the same: an entry's mark is at its variable, and each mark names an entry
pub record IsTied (marks : List (Option Mark)) (es : List Entry) : Type 0 where
  pub among : (k : ℕ) → k < length es → is_among (length marks) (entry_at es k).literal ≡ true
  pub marked : Marks marks es
  pub placed : (v : ℕ) (m : Mark) → slice_index_or marks v None ≡ Some m → (m.position < length es) × ((entry_at es m.position).literal.variable ≡ suc v)

-- no entry from one position up to another is a decision
abbrev pub NoDecision : List Entry → ℕ → ℕ → Type 0
NoDecision es from to = (k : ℕ) → from ≤ k → k < to → is_some (entry_at es k).reason ≡ true

-- each entry's variable is one of the first `variables`, and no two entries have one variable
pub record AreApart (variables : ℕ) (es : List Entry) : Type 0 where
  pub among : (k : ℕ) → k < length es → is_among variables (entry_at es k).literal ≡ true
  pub apart : (j k : ℕ) → j < length es → k < length es → (entry_at es j).literal.variable ≡ (entry_at es k).literal.variable → j ≡ k

-- the entries from the position on mention the variable
abbrev pub is_after : List Entry → ℕ → ℕ → Bool
is_after es floor v = mentions (literals (drop floor es)) v

-- the set has a literal of each variable
abbrev pub IsTotal : ℕ → List Literal → Type 0
IsTotal variables s = (v : ℕ) → 1 ≤ v → v ≤ variables → mentions s v ≡ true

-- the sign of a marked variable, and false for the others
abbrev pub sign_of : Option Mark → Bool
sign_of None = false
sign_of (Some m) = m.positive
