-- A lowered design without the wires of operations that only join values or take them apart (CIRCT, HW dialect:
-- `hw-lower-aggregates`).
use Rattle.std.specs.Prelude.{ℕ, ◌+◌, Bool, true, false, cond, List, [], ◌∷◌, map}
use Rattle.hw_model.specs.Kinds.{Kind}
use Rattle.hw_model.specs.Kinds.ArrayOp.{array_create, array_concat}
use Rattle.hw_model.specs.Kinds.Kind.{on_array, on_struct}
use Rattle.hw_model.specs.Design.{Op, Module, Design}
use Rattle.inline_laws.specs.Unwire.{unwire}
use Rattle.aggregate_laws.specs.Rules.{Rules, count_by, lowered_module}

-- whether an operation only joins or takes apart: what it becomes are wires without names
abbrev pub only_joins : Kind → Bool
only_joins (on_array array_create) = true
only_joins (on_array array_concat) = true
only_joins (on_struct f) = true
only_joins kind = false

-- of a body in which the blocks of these operations stand from position i on, without the wires of those that only join,
-- in text order, the first operand of each wire standing for its result
abbrev pub without_joins : Rules → ℕ → List Op → List Op → List Op
without_joins rules i [] body = body
without_joins rules i (o ∷ os) body =
    cond (only_joins o.kind) (without_joins rules i os (unwire i (count_by rules o) body)) (without_joins rules (i + count_by rules o) os body)

-- a lowered module without the wires of operations that only join
abbrev pub joined_module : Rules → Module → Module
joined_module rules m = record (lowered_module rules m) { body = without_joins rules 0 m.body (lowered_module rules m).body }

abbrev pub joined_design : Rules → Design → Design
joined_design rules d = map (joined_module rules) d
