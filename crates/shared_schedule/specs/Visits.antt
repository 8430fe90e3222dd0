-- What a gate is told of the modules that workers work.
use Rattle.std.specs.Prelude.{◌≡◌, ℕ, ◌+◌, ◌-◌, ◌≤◌, nat_lt, List, [], ◌∷◌, ◌++◌, Option, Some, None, option_map}
use Rattle.sched_core.specs.Sums.{one_if}
use Rattle.shared_schedule.specs.declared.view.View.{View}
use Rattle.shared_schedule.specs.Views.{done_times}
use Rattle.shared_schedule.specs.Working.{times}

-- the modules that a handle of a gate was told of, in order, and how many handles were taken from it and have not come back
pub record History : Type 0 where
  pub visits : List ℕ
  pub lent : ℕ

-- a history with more visits
abbrev pub with_visits : List ℕ → History → History
with_visits more h = record { visits = h.visits ++ more; lent = h.lent }

-- a history with one more handle out
abbrev pub with_handle : History → History
with_handle h = record { visits = h.visits; lent = h.lent + 1 }

-- the history of a new handle
abbrev pub no_visits : History → History
no_visits h = record { visits = []; lent = 0 }

-- two histories, once the handle of the second has come back to that of the first
abbrev pub both_histories : History → History → History
both_histories h k = record { visits = h.visits ++ k.visits; lent = h.lent + k.lent - 1 }

-- the same where both are told
abbrev pub gathered : Option History → Option History → Option History
gathered None k = None
gathered (Some h) None = None
gathered (Some h) (Some k) = Some (both_histories h k)

-- the newest visit is that of the module, where the history is told
abbrev pub HasEntered : Option History → ℕ → Type 0
HasEntered told m = (before : Option History) × (told ≡ option_map (with_visits (m ∷ [])) before)

-- each number below the bound is visited once, and no other
abbrev pub AreEachOnce : ℕ → List ℕ → Type 0
AreEachOnce modules visits = (m : ℕ) → times m visits ≡ one_if (nat_lt m modules)

-- a run over so many modules has told the gate of each of them once, in any order
abbrev pub VisitsEach : ℕ → Option History → Option History → Type 0
VisitsEach modules before after = (visits : List ℕ) × AreEachOnce modules visits × (after ≡ option_map (with_visits visits) before)

-- a worker went on, and its gate was told once of each module that it came to be over with, and of no other
pub record HasVisited {P : Type 0} (modules : ℕ) (v after : View P) (told told_after : Option History) : Type 0 where
  pub visits : List ℕ
  pub are : told_after ≡ option_map (with_visits visits) told
  pub each : (m : ℕ) → done_times v.moves m + times m visits ≡ done_times after.moves m
  pub within : (m : ℕ) → modules ≤ m → times m visits ≡ 0
