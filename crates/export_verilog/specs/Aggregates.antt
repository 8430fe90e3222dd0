-- What has no aggregate: the export has integers and clocks alone (CIRCT, HW dialect: types).
use Rattle.std.specs.Prelude.{◌≡◌, Bool, true, false}
use Rattle.hw_model.specs.Types.{HwType}
use Rattle.hw_model.specs.Types.HwType.{array, struct}
use Rattle.hw_model.specs.Design.{Design}
use Rattle.aggregate_laws.specs.Scalars.{has_aggregates}

-- whether a type is an array or a struct
abbrev pub is_aggregate : HwType → Bool
is_aggregate (array n t) = true
is_aggregate (struct fs) = true
is_aggregate _ = false

-- no port and no result of a design has such a type
abbrev pub HasNoAggregates : Design → Type 0
HasNoAggregates d = has_aggregates d ≡ false
