use Rattle.std.proofs.Common.{◌≡◌, ℕ, ◌+◌, ◌-◌, length}
use Rattle.canonicalise.specs.Runs.{IsOf}
use Rattle.canonicalise.proofs.runs.Runs.put.Given as goal

-- what is put after the numbers is of no run
abbrev pub invariant-loop-self : goal.invariant-loop-self
invariant-loop-self l = record {
  few : (r id : ℕ) → IsOf l.self r id → IsOf l.fn.self r id;
  stay : (r id : ℕ) → IsOf l.fn.self r id → IsOf l.self r id;
  runs : l.self.runs.items ≡ l.fn.self.runs.items;
}

abbrev pub decreases-loop-self : goal.decreases-loop-self
decreases-loop-self l = l.position + 1 - length l.self.of.items
