use Rattle.std.proofs.Common.{ℕ, ◌<◌, ◌≤◌}
use Rattle.wiring.specs.Wiring.{Depends}
use Rattle.graphs.specs.Graphs.{lists_of, edges}
use Rattle.design_cycles.proofs.cycles.has_cycle.Given as goal

abbrev pub invariant-loop-node : goal.invariant-loop-node
invariant-loop-node l = (v : ℕ) → l.fn.span.start ≤ v → v < l.node → Depends (edges (lists_of l.graph)) v v → ⊥
