-- What is asked of a design before it is taken: the first instance on a cycle of modules, the first module that is too
-- large, the first operation on a combinational cycle.
use Rattle.std.specs.Prelude.{◌≡◌, ℕ, ◌<◌, ◌^◌, ◌⊎◌, [], Some, slice_get}
use Rattle.wiring.specs.Wiring.{Depends as IsReached}
use Rattle.hw_model.specs.Types.{Name}
use Rattle.hw_model.specs.Kinds.{Instance}
use Rattle.hw_model.specs.Design.{Op, Module, Design, instance_in}
use Rattle.hw_model.specs.Design.Ref.{result}
use Rattle.hw_model.specs.Flat.{net}
use Rattle.hw_model.specs.Hierarchy.{calls}
use Rattle.hw_model.specs.Meaning.{Depends}
use Rattle.hw_model.specs.Weight.{weight}

-- no two modules have one symbol
abbrev pub HasDistinctSymbols : Design → Type 0
HasDistinctSymbols d = (i j : ℕ) (m n : Module) → slice_get d i ≡ Some m → slice_get d j ≡ Some n → m.symbol ≡ n.symbol → i ≡ j

-- ---- the three questions

-- an instance of the symbol s in the module of the symbol m lies on a cycle of modules
abbrev pub Returns : Design → Name → Name → Type 0
Returns d s m = (s ≡ m) ⊎ IsReached (calls d) s m

-- operation j of module i is an instance on a cycle of modules
pub record IsRecursiveAt (d : Design) (i j : ℕ) : Type 0 where
  pub module_there : Module
  pub op_there : Op
  pub instance_there : Instance
  pub has_module : slice_get d i ≡ Some module_there
  pub has_op : slice_get module_there.body j ≡ Some op_there
  pub is_instance : instance_in op_there.kind ≡ Some instance_there
  pub returns : Returns d instance_there.symbol module_there.symbol

-- module i is too large
pub record IsTooLargeAt (d : Design) (i : ℕ) : Type 0 where
  pub module_there : Module
  pub has_module : slice_get d i ≡ Some module_there
  pub is_large : 2 ^ 28 < weight d module_there.symbol

-- operation j of module i has a result that depends on itself in its own module's flattening
pub record IsCyclicAt (d : Design) (i j : ℕ) : Type 0 where
  pub module_there : Module
  pub number : ℕ
  pub has_module : slice_get d i ≡ Some module_there
  pub depends : Depends d module_there.symbol (net [] (result j number)) (net [] (result j number))
