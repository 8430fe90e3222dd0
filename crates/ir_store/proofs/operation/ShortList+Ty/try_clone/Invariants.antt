use Rattle.std.proofs.Common.{◌≡◌, take, map}
use Rattle.hw_model.specs.TypeViews.{type_of}
use Rattle.ir_store.specs.OperationViews.{types_in}
use Rattle.ir_store.specs.ShortLists.{short_items}
use Rattle.ir_store.proofs.operation.ShortList+Ty.try_clone.Given as goal

abbrev pub invariant-loop-ty : goal.invariant-loop-ty
invariant-loop-ty l = types_in l.copy ≡ map type_of (take l.ty-index (short_items l.self))
