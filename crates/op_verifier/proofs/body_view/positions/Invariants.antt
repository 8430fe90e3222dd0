use Rattle.std.proofs.Common.{◌≡◌, ℕ, ◌+◌, ◌≤◌, map, drop, length, slice_index_or}
use Rattle.ir_store.specs.BodyOps.{ids_in}
use Rattle.ir_store.specs.Numbered.{position_of}
use Rattle.op_verifier.specs.Entries.{op_in}
use Rattle.op_verifier.proofs.body_view.positions.Given as goal

abbrev pub invariant-loop-position : goal.invariant-loop-position
invariant-loop-position l = record {
  within : l.position ≤ length l.entries;
  noted : (q : ℕ) → slice_index_or l.table.items q (length l.entries) ≡ l.position + position_of (drop l.position (ids_in (map op_in l.entries))) q;
}

abbrev pub decreases-loop-position : goal.decreases-loop-position
decreases-loop-position l = l.position
