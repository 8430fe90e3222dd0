-- How the marks of a conflict become a clause.
use Rattle.std.specs.Prelude.{ℕ, Bool, true, false, ◌≡◌, ◌<◌, ◌≤◌, ◌-◌, ◌⊎◌, List, length}
use Rattle.resolution_proof.specs.declared.literal.Literal.{Literal}
use Rattle.clause_learning.specs.declared.trail.Entry.{Entry}
use Rattle.resolution_proof.specs.Literal.{negation, holds, is_once}
use Rattle.clause_learning.specs.Watching.{literal_at}
use Rattle.clause_learning.specs.Trail.{literals, entry_at}
use Rattle.clause_learning.specs.Learning.{is_seen, is_seen_entry, Represents}

-- the clause has the negations of the marked entries, and `start` comes after the newest of these
pub record Gathers (seen : List Bool) (es : List Entry) (c : List Literal) (start : ℕ) : Type 0 where
  pub negations : Represents seen (literals es) c
  pub once : is_once c ≡ true
  pub above : (k : ℕ) → start ≤ k → k < length es → is_seen_entry seen (entry_at es k) ≡ false
  pub marked : 0 < start → (start ≤ length es) × (is_seen_entry seen (entry_at es (start - 1)) ≡ true)

-- the same while the marks are taken off one by one: `now` are those that are left
pub record IsGathering (seen now : List Bool) (es : List Entry) (c : List Literal) (start : ℕ) : Type 0 where
  pub len : length now ≡ length seen
  pub less : (v : ℕ) → 1 ≤ v → is_seen now v ≡ true → is_seen seen v ≡ true
  pub found : (l : Literal) → holds c l ≡ true → (is_seen seen l.variable ≡ true) × (holds (literals es) (negation l) ≡ true) × (is_seen now l.variable ≡ false)
  pub left : (l : Literal) → is_seen seen l.variable ≡ true → holds (literals es) (negation l) ≡ true → (is_seen now l.variable ≡ true) ⊎ (holds c l ≡ true)
  pub once : is_once c ≡ true
  pub above : (k : ℕ) → start ≤ k → k < length es → is_seen_entry seen (entry_at es k) ≡ true → is_seen_entry now (entry_at es k) ≡ true
  pub marked : 0 < start → (start ≤ length es) × (is_seen_entry seen (entry_at es (start - 1)) ≡ true)

-- the clause has the negations of the marked entries, of which that of the one entry from the floor on comes last,
-- and `start` comes after the newest of the others
pub record IsFinished (seen : List Bool) (es : List Entry) (floor : ℕ) (c : List Literal) (start : ℕ) : Type 0 where
  pub negations : Represents seen (literals es) c
  pub once : is_once c ≡ true
  pub low : start ≤ floor
  pub above : (k : ℕ) → start ≤ k → k < floor → is_seen_entry seen (entry_at es k) ≡ false
  pub marked : 0 < start → is_seen_entry seen (entry_at es (start - 1)) ≡ true
  pub full : 0 < length c
  pub tip : ℕ
  pub tip_low : floor ≤ tip
  pub tip_in : tip < length es
  pub tip_marked : is_seen_entry seen (entry_at es tip) ≡ true
  pub last : literal_at c (length c - 1) ≡ negation (entry_at es tip).literal
