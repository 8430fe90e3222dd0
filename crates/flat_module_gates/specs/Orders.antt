-- Orders of a body's operations, and what each operation needs before it.
use Rattle.std.specs.Prelude.{ℕ, cond, ◌||◌, List, [], ◌∷◌}
use Rattle.hw_model.specs.Design.{Ref, Op, is_register, is_output_op}
use Rattle.hw_model.specs.Design.Ref.{port, result, undefined}
use Rattle.flat_module_laws.specs.Orders.{IsOrder}

-- the operations have an order in which each stands after those whose results it takes
abbrev pub HasOrder : List Op → Type 0
HasOrder os = (order : List ℕ) × IsOrder os order

-- the positions of the operations whose results values are
abbrev pub makers_of : List Ref → List ℕ
makers_of [] = []
makers_of (port j ∷ rs) = makers_of rs
makers_of (result j k ∷ rs) = j ∷ makers_of rs
makers_of (undefined ∷ rs) = makers_of rs

-- the positions of the operations that one needs before it; a register has its content and an output no result, so they need none
abbrev pub needs_of : Op → List ℕ
needs_of o = cond (is_register o || is_output_op o) [] (makers_of o.operands)
