use Rattle.std.proofs.Common.{◌≡◌, ◌++◌, take, map}
use Rattle.hw_model.specs.TypeViews.{type_of}
use Rattle.ir_store.specs.OperationViews.{types_in}
use Rattle.body_edits.proofs.spliced.push_types.Given as goal

abbrev pub invariant-loop-ty : goal.invariant-loop-ty
invariant-loop-ty l = types_in l.list ≡ types_in l.fn.list ++ map type_of (take l.ty-index l.types)
