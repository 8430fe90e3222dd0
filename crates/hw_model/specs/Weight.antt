-- The weight of a module: a bound on the operations that its flattening and the lowering of its aggregates make.
use Rattle.std.specs.Prelude.{ℕ, zero, suc, ◌+◌, ◌*◌, List, [], ◌∷◌, length, map, Option, Some, None}
use Rattle.wiring.specs.Lists.{total}
use Rattle.hw_model.specs.Types.{Name, HwType, leaves}
use Rattle.hw_model.specs.Types.HwType.{array}
use Rattle.hw_model.specs.Kinds.{Kind, Reset, Literal, Literals, ArrayOp, RegisterOp}
use Rattle.hw_model.specs.Kinds.Literal.{leaf, parts}
use Rattle.hw_model.specs.Kinds.Literals.{no_literals, literal}
use Rattle.hw_model.specs.Kinds.Reset.{no_reset, sync_reset}
use Rattle.hw_model.specs.Kinds.ArrayOp.{array_get, array_slice, array_inject}
use Rattle.hw_model.specs.Kinds.RegisterOp.{compreg, compreg_ce, firreg}
use Rattle.hw_model.specs.Kinds.Kind.{mux, constant, aggregate_constant, on_array, bitcast, wire, instance, output, register, async_firreg}
use Rattle.hw_model.specs.Design.{Port, Op, Module, Design, find_module}
use Rattle.hw_model.specs.Value.{nth_type}

-- how many leaves values of these types have
abbrev pub leaf_count : List HwType → ℕ
leaf_count ts = total (map (λ t. length (leaves t)) ts)

-- how many numbers a constant of an aggregate type has
abbrev mutual
  pub literal_leaves : Literal → ℕ
  literal_leaves (leaf z t) = 1
  literal_leaves (parts ls) = literals_leaves ls

  pub literals_leaves : Literals → ℕ
  literals_leaves no_literals = 0
  literals_leaves (literal l ls) = literal_leaves l + literals_leaves ls

-- the length of an array and the leaves of its elements
abbrev pub element_count : HwType → ℕ
element_count (array n t) = n
element_count _ = 0

abbrev pub element_leaves : HwType → ℕ
element_leaves (array n t) = length (leaves t)
element_leaves _ = 0

-- choosing one of n elements of m leaves, `copies` times over
abbrev pub choice_weight : ℕ → ℕ → ℕ → ℕ
choice_weight n m copies = 4 * n + copies * (m * (4 * n + 1))

abbrev pub reset_weight : Reset → ℕ
reset_weight no_reset = 0
reset_weight sync_reset = 4

-- an operation on arrays that writes the types `ts` and has n operands
abbrev pub array_weight : ArrayOp → List HwType → ℕ → ℕ
array_weight array_get ts n = choice_weight (element_count (nth_type ts 0)) (element_leaves (nth_type ts 0)) 1
array_weight array_slice ts n = choice_weight (element_count (nth_type ts 0)) (element_leaves (nth_type ts 0)) (element_count (nth_type ts 1))
array_weight array_inject ts n = 4 * element_count (nth_type ts 0) + 4 * (element_count (nth_type ts 0) * element_leaves (nth_type ts 0))
array_weight _ ts n = 1 + n

-- a register, for each leaf, without its reset
abbrev pub register_weight : RegisterOp → ℕ
register_weight compreg = 3
register_weight compreg_ce = 7
register_weight firreg = 3

-- the weight of an operation that writes the types `ts` and has `n` operands, `inner` giving that of the module of a symbol
abbrev pub kind_weight : (Name → ℕ) → Kind → List HwType → ℕ → ℕ
kind_weight inner (constant z) ts n = 1
kind_weight inner (aggregate_constant ls) ts n = literals_leaves ls
kind_weight inner mux ts n = 4 * leaf_count ts
kind_weight inner (on_array a) ts n = array_weight a ts n
kind_weight inner bitcast ts n = 1 + 4 * leaf_count ts
kind_weight inner wire ts n = 2 * leaf_count ts
kind_weight inner (instance i) ts n = 1 + leaf_count ts + inner i.symbol
kind_weight inner output ts n = 1 + leaf_count ts
kind_weight inner (register f r) ts n = (register_weight f + reset_weight r) * leaf_count ts
kind_weight inner async_firreg ts n = (register_weight firreg + reset_weight sync_reset) * leaf_count ts
kind_weight inner _ ts n = 1 + n

abbrev pub body_weight : (Name → ℕ) → List Op → ℕ
body_weight inner [] = 0
body_weight inner (o ∷ os) = kind_weight inner o.kind o.types (length o.operands) + body_weight inner os

abbrev pub weight_of : (Name → ℕ) → Option Module → ℕ
weight_of inner None = 0
weight_of inner (Some m) = leaf_count (map (λ (p : Port). p.type) m.ports) + body_weight inner m.body

-- the weight of the module of a symbol, down to a depth of instances
abbrev pub module_weight : ℕ → Design → Name → ℕ
module_weight zero d symbol = 0
module_weight (suc n) d symbol = weight_of (module_weight n d) (find_module d symbol)

abbrev pub weight : Design → Name → ℕ
weight d symbol = module_weight (suc (length d)) d symbol
