use Rattle.std.proofs.Common.{◌≡◌, ◌++◌, map, drop}
use Rattle.ir_store.specs.OperationViews.{results_in, result_of, location_of}
use Rattle.ir_store.specs.ShortLists.{short_items}
use Rattle.inline_pass.specs.MovedOps.{without_id, wires_of}
use Rattle.inline_pass.proofs.moved_ops.wires_for.Given as goal

abbrev pub invariant-loop-one : goal.invariant-loop-one
invariant-loop-one l = map without_id l.wires.items ++ wires_of (location_of l.location) (map result_of (drop l.one-index (short_items l.results))) l.rest ≡ wires_of (location_of l.location) (results_in l.results) l.given
