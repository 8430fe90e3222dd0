use Rattle.std.proofs.Common.{◌≡◌, map}
use Rattle.ir_store.specs.Bodies.{ops_of}
use Rattle.cse_pass.proofs.MergedBodies.{with_merged_below}
use Rattle.cse_pass.proofs.merges.merge.Given as goal

abbrev pub invariant-loop-number : goal.invariant-loop-number
invariant-loop-number l = ops_of l.body ≡ map (with_merged_below l.number l.fn.op l.fn.first) (ops_of l.fn.body)
