use Rattle.std.proofs.Common.{◌≡◌, ◌<◌, ◌^◌, length, map}
use Rattle.ir_store.specs.Bodies.{ops_of}
use Rattle.inline_pass.specs.MovedOps.{without_id}
use Rattle.inline_pass.proofs.PuttingBefore.{IsPutting}
use Rattle.inline_pass.proofs.body_changes.put_all_before.Given as goal

abbrev pub invariant-loop-op : goal.invariant-loop-op
invariant-loop-op l = record {
  putting : IsPutting l.before (map without_id l.fn.ops.items) (ops_of l.fn.body) (ops_of l.body) l.ids.items (map without_id l.op-iterator.rest.items);
  few : length l.ids.items < 2 ^ 32;
  left : l.op-iterator.rest.len ≡ length l.op-iterator.rest.items;
}
