-- What a module has by what the modules have that it instances.
use Rattle.std.specs.Prelude.{◌≡◌, ℕ, zero, suc, ◌<◌, List, Option, Some, None, length, take, slice_get, get_or}
use Rattle.wiring.specs.Wiring.{In}
use Rattle.hw_model.specs.Types.{Name}
use Rattle.hw_model.specs.Design.{Module, Design, find_module}
use Rattle.hw_model.specs.Flat.{depth}
use Rattle.ir_store.specs.Symbols.{symbol_position}
use Rattle.graphs.specs.Graphs.{edges}

-- down to a depth of instances, `of` giving it from that of the modules that it instances
abbrev pub to_depth : {A : Type 0} → ((Name → A) → Option Module → A) → A → ℕ → Design → Name → A
to_depth of none zero d s = none
to_depth of none (suc n) d s = of (to_depth of none n d) (find_module d s)

-- of the module of a symbol
abbrev pub summed : {A : Type 0} → ((Name → A) → Option Module → A) → A → Design → Name → A
summed of none d s = to_depth of none (depth d) d s

-- what is kept under a number, where there is one, and of the module of a symbol
abbrev pub kept : {A : Type 0} → A → List A → Option ℕ → A
kept none values None = none
kept none values (Some i) = get_or values i none

abbrev pub kept_by : {A : Type 0} → A → List Name → List A → Name → A
kept_by none symbols values s = kept none values (symbol_position s symbols)

-- nodes with all that they need, each after that, and one of them
pub record IsBelow (lists : List (List ℕ)) (top : ℕ) (nodes : List ℕ) : Type 0 where
  pub within : (v : ℕ) → In v nodes → v < length lists
  pub top_there : In top nodes
  pub following : (i v t : ℕ) → slice_get nodes i ≡ Some v → In t (edges lists v) → t < length lists → In t (take i nodes)
