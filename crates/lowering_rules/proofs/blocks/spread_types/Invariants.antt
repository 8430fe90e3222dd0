use Rattle.std.proofs.Common.{◌≡◌, ◌++◌, map, drop}
use Rattle.std.specs.List.{flat_map}
use Rattle.hw_model.specs.Types.{leaves}
use Rattle.hw_model.specs.TypeViews.{type_of}
use Rattle.ir_store.specs.ShortLists.{short_items}
use Rattle.ir_store.specs.OperationViews.{types_in}
use Rattle.lowering_rules.proofs.blocks.spread_types.Given as goal

abbrev pub invariant-loop-ty : goal.invariant-loop-ty
invariant-loop-ty l = map type_of l.leaves.items ++ flat_map leaves (map type_of (drop l.ty-index (short_items l.types))) ≡ flat_map leaves (types_in l.types)
