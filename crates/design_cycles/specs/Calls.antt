-- Which modules instance which, by their numbers.
use Rattle.std.specs.Prelude.{◌≡◌, ℕ, List, [], ◌∷◌, ◌++◌, map, option_to_list, Option, Some, None, slice_get}
use Rattle.hw_model.specs.Types.{Name}
use Rattle.hw_model.specs.Kinds.{Instance}
use Rattle.hw_model.specs.Design.{Op, Module, Design, instance_in}
use Rattle.hw_model.specs.Hierarchy.{callee_symbols}
use Rattle.ir_store.specs.Symbols.{symbol_position}
use Rattle.ir_store.specs.Designs.{StoredModule}

-- the symbols of the modules, in order
abbrev pub symbols_in : Design → List Name
symbols_in d = map (λ (m : Module). m.symbol) d

-- the numbers of the modules of these symbols, where there are any
abbrev pub numbers_of : List Name → List Name → List ℕ
numbers_of symbols [] = []
numbers_of symbols (s ∷ ss) = option_to_list (symbol_position s symbols) ++ numbers_of symbols ss

-- of each module the numbers of those that it instances
abbrev pub call_lists : Design → List (List ℕ)
call_lists d = map (λ (m : Module). numbers_of (symbols_in d) (callee_symbols m.body)) d

-- the number of the module that an operation instances
abbrev pub callee_number : List Name → Option Instance → Option ℕ
callee_number symbols None = None
callee_number symbols (Some i) = symbol_position i.symbol symbols

-- the operation at a position instances the module of this number, or none that is there
pub record IsCalleeAt (symbols : List Name) (os : List Op) (j : ℕ) (number : Option ℕ) : Type 0 where
  pub op_there : Op
  pub has_op : slice_get os j ≡ Some op_there
  pub number_is : number ≡ callee_number symbols (instance_in op_there.kind)

-- the first module of the symbol of module i is module i
abbrev pub IsFoundAt : List StoredModule → ℕ → Type 0
IsFoundAt modules i = (m : StoredModule) → slice_get modules i ≡ Some m → symbol_position m.symbol (map (λ (x : StoredModule). x.symbol) modules) ≡ Some i
