use Rattle.std.proofs.Common.{◌≡◌, ℕ, ◌+◌, ◌-◌, length}
use Rattle.canonicalise.specs.Settled.{IsSettled}
use Rattle.canonicalise.proofs.marks.Marks.settle.Given as goal

-- what is put after the flags is not settled
abbrev pub invariant-loop-self : goal.invariant-loop-self
invariant-loop-self l = record {
  few : (id : ℕ) → IsSettled l.self id → IsSettled l.fn.self id;
  stay : (id : ℕ) → IsSettled l.fn.self id → IsSettled l.self id;
  runs : l.self.runs ≡ l.fn.self.runs;
}

abbrev pub decreases-loop-self : goal.decreases-loop-self
decreases-loop-self l = l.position + 1 - length l.self.settled.items
