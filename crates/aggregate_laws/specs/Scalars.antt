-- Whether values of a design have aggregate types (CIRCT, HW dialect: types).
use Rattle.std.specs.Prelude.{Bool, true, false, cond, List, [], ◌∷◌}
use Rattle.hw_model.specs.Design.{Port, OpResult, Op, Module, Design}
use Rattle.aggregate_laws.specs.Aggregates.{is_scalar}

-- whether some port, some result has an aggregate type
abbrev pub has_aggregate_port : List Port → Bool
has_aggregate_port [] = false
has_aggregate_port (q ∷ ps) = cond (is_scalar q.type) (has_aggregate_port ps) true

abbrev pub has_aggregate_type : List OpResult → Bool
has_aggregate_type [] = false
has_aggregate_type (x ∷ xs) = cond (is_scalar x.type) (has_aggregate_type xs) true

abbrev pub has_aggregate_result : List Op → Bool
has_aggregate_result [] = false
has_aggregate_result (o ∷ os) = cond (has_aggregate_type o.results) true (has_aggregate_result os)

-- whether some value of a module, of a design has an aggregate type
abbrev pub has_aggregate_value : Module → Bool
has_aggregate_value m = cond (has_aggregate_port m.ports) true (has_aggregate_result m.body)

abbrev pub has_aggregates : Design → Bool
has_aggregates [] = false
has_aggregates (m ∷ d) = cond (has_aggregate_value m) true (has_aggregates d)
