use Rattle.std.proofs.Common.{◌≡◌, take}
use Rattle.design_cycles.specs.Summing.{reached_numbers}
use Rattle.design_cycles.proofs.summaries.marked_inputs.Given as goal

abbrev pub invariant-loop-number : goal.invariant-loop-number
invariant-loop-number l = l.nodes.items ≡ reached_numbers l.marks 0 (take l.number l.inputs)
