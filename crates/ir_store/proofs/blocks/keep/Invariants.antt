use Rattle.std.proofs.Common.{◌≡◌, take}
use Rattle.std.specs.Vec.{vec_len, vec_capacity}
use Rattle.ir_store.proofs.blocks.keep.Given as goal

abbrev pub invariant-loop-value : goal.invariant-loop-value
invariant-loop-value l = (l.spare.items ≡ take l.value-index l.list) × ((vec_len l.spare ≡ l.value-index) × (vec_capacity l.spare ≡ vec_capacity l.fn.spare))
