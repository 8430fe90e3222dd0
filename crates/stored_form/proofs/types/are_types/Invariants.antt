use Rattle.std.proofs.Common.{take, map}
use Rattle.hw_model.specs.TypeViews.{type_of}
use Rattle.stored_form.specs.Bytes.{Each}
use Rattle.stored_form.specs.Limits.{IsAnyType}
use Rattle.stored_form.proofs.types.are_types.Given as goal

abbrev pub invariant-loop-ty : goal.invariant-loop-ty
invariant-loop-ty l = Each IsAnyType (map type_of (take l.ty-index l.types))
