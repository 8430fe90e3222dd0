use Rattle.std.proofs.Common.{◌≡◌, ◌+◌, ◌*◌, ◌<◌, ◌≤◌, ◌^◌, ◌++◌, length}
use Rattle.aiger_design.specs.Positions.{latch_users}
use Rattle.aiger_design.specs.Built.{groups}
use Rattle.aiger_reader.specs.Kept.{tree_of}
use Rattle.aiger_text.specs.Seen.{seen, IsNumbered}
use Rattle.aiger_text.proofs.bodies.add_latches.Given as goal

abbrev pub invariant-loop-latch : goal.invariant-loop-latch
invariant-loop-latch l = record {
  ops : seen l.body ++ groups (tree_of l.text) (length (seen l.body)) (latch_users l.k l.rest)
      ≡ seen l.fn.body ++ groups (tree_of l.text) (length (seen l.fn.body)) (latch_users 0 l.text.latches.items);
  room : length (seen l.body) + 2 * length l.rest < 2 ^ 32;
  count : l.k + length l.rest ≤ length l.text.latches.items;
  numbered : IsNumbered l.body;
}

abbrev pub decreases-loop-latch : goal.decreases-loop-latch
decreases-loop-latch l = length l.rest
