-- Counts of faults: when they rise, and that a call fails only where its own count rose.
use Rattle.std.specs.Prelude.{ℕ, ◌+◌, ◌-◌, ◌^◌, ◌≤◌, min, Result, OnErr}

-- the count one higher; it saturates at the end of a u64
abbrev pub next_count : ℕ → ℕ
next_count count = min (count + 1) (2 ^ 64 - 1)

-- the count rose, or stands at the end of a u64
abbrev pub HasRisen : ℕ → ℕ → Type 0
HasRisen before after = next_count before ≤ after

-- a count over one call: it never falls, and the call failed only where it rose
pub record HasCause {T E : Type 0} (before after : ℕ) (result : Result T E) : Type 0 where
  pub kept : before ≤ after
  pub rose : OnErr result (HasRisen before after)
