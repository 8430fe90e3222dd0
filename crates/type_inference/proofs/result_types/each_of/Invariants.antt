use Rattle.std.proofs.Common.{◌≡◌, map, take}
use Rattle.std.specs.Prelude.{Some}
use Rattle.std.specs.Option.{option_map}
use Rattle.hw_model.specs.TypeViews.{type_of}
use Rattle.type_inference.proofs.result_types.each_of.Given as goal

abbrev pub invariant-loop-ty : goal.invariant-loop-ty
invariant-loop-ty l = map (option_map type_of) l.copies.items ≡ map Some (map type_of (take l.ty-index l.types))
