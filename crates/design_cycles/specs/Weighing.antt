-- Weights of modules by their numbers.
use Rattle.std.specs.Prelude.{◌≡◌, ℕ, ◌<◌, List, Option, Some, None, length, min, slice_get, slice_index, take}
use Rattle.wiring.specs.Wiring.{In}
use Rattle.hw_model.specs.Types.{Name}
use Rattle.hw_model.specs.Design.{Op, Module, Design}
use Rattle.hw_model.specs.Weight.{kind_weight, weight}
use Rattle.ir_store.specs.Symbols.{symbol_position}
use Rattle.graphs.specs.Graphs.{edges}

-- the weight that is kept under a number, where there is one
abbrev pub kept_weight : List ℕ → Option ℕ → ℕ
kept_weight weights None = 0
kept_weight weights (Some i) = slice_index weights i

-- the weight that is kept of the module of a symbol
abbrev pub weight_by : List Name → List ℕ → Name → ℕ
weight_by symbols weights s = kept_weight weights (symbol_position s symbols)

-- the operation at a position weighs so much, up to m
pub record WeighsAt (inner : Name → ℕ) (os : List Op) (j m w : ℕ) : Type 0 where
  pub op_there : Op
  pub has_op : slice_get os j ≡ Some op_there
  pub weight_is : w ≡ min (kind_weight inner op_there.kind op_there.types (length op_there.operands)) m

-- the weight of module i is kept, up to m
abbrev pub Weighs : Design → List ℕ → ℕ → ℕ → Type 0
Weighs d weights m i = (one : Module) → slice_get d i ≡ Some one → slice_index weights i ≡ min (weight d one.symbol) m

-- all nodes, each after all that it needs
pub record IsWhole (lists : List (List ℕ)) (nodes : List ℕ) : Type 0 where
  pub within : (v : ℕ) → In v nodes → v < length lists
  pub all : (v : ℕ) → v < length lists → In v nodes
  pub following : (i v t : ℕ) → slice_get nodes i ≡ Some v → In t (edges lists v) → t < length lists → In t (take i nodes)
