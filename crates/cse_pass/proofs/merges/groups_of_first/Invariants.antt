use Rattle.std.proofs.Common.{◌≡◌, ◌≤◌, ◌-◌, map, take, drop}
use Rattle.ir_store.specs.Bodies.{ids_of, ops_of, op_id, first_id}
use Rattle.cse_pass.specs.Groups.{IsGrouping}
use Rattle.cse_pass.proofs.merges.groups_of_first.Given as goal

abbrev pub invariant-loop-position : goal.invariant-loop-position
invariant-loop-position l = record {
  most : l.position ≤ l.count;
  stands : l.at ≡ first_id (map op_id (drop l.position (ids_of l.body)));
  grouped : IsGrouping l.groups (take l.position (ops_of l.body));
}

abbrev pub decreases-loop-position : goal.decreases-loop-position
decreases-loop-position l = l.count - l.position
