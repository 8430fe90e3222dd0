-- Answers that stand one after another: the first that is there counts.
use Rattle.std.specs.Prelude.{Bool, true, false, Option, Some, None}
use Rattle.diag.specs.declared.cause.Cause.{Cause}

-- the cause, where the test holds
abbrev pub when : Bool → Cause → Option Cause
when false cause = None
when true cause = Some cause

-- the first of two answers
abbrev pub or_else : {A : Type 0} → Option A → Option A → Option A
or_else None second = second
or_else (Some a) second = Some a
