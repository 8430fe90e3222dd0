use Rattle.std.proofs.Common.{◌≡◌, ◌<◌, ℕ}
use Rattle.ir_store.specs.Bodies.{ops_of}
use Rattle.ir_store.specs.Uses.{use_at, uses_in, use_times}
use Rattle.ir_store.specs.UsesLeft.{uses_left}
use Rattle.body_edits.proofs.operand_choices.may_stand_after.Given as goal

-- the uses after the position are still to come
abbrev pub invariant-loop-position : goal.invariant-loop-position
invariant-loop-position l = (j : ℕ) → l.at < j → use_times (use_at l.op.index j) (uses_in l.fn.value (ops_of l.body)) ≡ use_times (use_at l.op.index j) (uses_left l.position-iterator)
