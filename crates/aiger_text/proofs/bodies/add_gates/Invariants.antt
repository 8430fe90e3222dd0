use Rattle.std.proofs.Common.{◌≡◌, ◌+◌, ◌*◌, ◌<◌, ◌^◌, ◌++◌, map, length}
use Rattle.aiger_design.specs.Positions.{gate_user}
use Rattle.aiger_design.specs.Built.{groups}
use Rattle.aiger_reader.specs.Kept.{tree_of}
use Rattle.aiger_text.specs.Seen.{seen, IsNumbered}
use Rattle.aiger_text.proofs.bodies.add_gates.Given as goal

abbrev pub invariant-loop-gate : goal.invariant-loop-gate
invariant-loop-gate l = record {
  ops : seen l.body ++ groups (tree_of l.text) (length (seen l.body)) (map gate_user l.rest)
      ≡ seen l.fn.body ++ groups (tree_of l.text) (length (seen l.fn.body)) (map gate_user l.text.gates.items);
  room : length (seen l.body) + 3 * length l.rest < 2 ^ 32;
  numbered : IsNumbered l.body;
}

abbrev pub decreases-loop-gate : goal.decreases-loop-gate
decreases-loop-gate l = length l.rest
