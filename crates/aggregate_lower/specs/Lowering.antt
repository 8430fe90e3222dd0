-- A design whose aggregate values have become their leaves (CIRCT, HW dialect: `hw-lower-aggregates`).
use Rattle.std.specs.Prelude.{cond, map}
use Rattle.hw_model.specs.Design.{Module, Design}
use Rattle.aggregate_laws.specs.Scalars.{has_aggregates}
use Rattle.aggregate_acceptance.specs.Joins.{joined_module}
use Rattle.lowering_rules.specs.LoweringRules.{lowering_rules}

-- a module of a design whose aggregate values are their leaves
abbrev pub lowered_by_leaves : Design → Module → Module
lowered_by_leaves d m = joined_module (lowering_rules d) m

-- the design whose aggregate values are their leaves, where it has any
abbrev pub lowered_aggregates : Design → Design
lowered_aggregates d = cond (has_aggregates d) (map (lowered_by_leaves d) d) d
