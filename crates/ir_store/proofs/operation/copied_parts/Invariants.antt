use Rattle.std.proofs.Common.{◌≡◌, length, take, map}
use Rattle.ir_store.specs.OperationViews.{parts_of}
use Rattle.ir_store.proofs.operation.copied_parts.Given as goal

abbrev pub invariant-loop-one : goal.invariant-loop-one
invariant-loop-one l = (map parts_of l.copies.items ≡ map parts_of (take l.one-index l.parts)) × (length l.copies.items ≡ l.one-index)
