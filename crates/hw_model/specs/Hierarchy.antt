-- Which modules are within which (IEEE 1364-2005, 12.1: hierarchical structures).
use Rattle.std.specs.Prelude.{◌≡◌, List, [], ◌∷◌, ◌++◌, Option, Some, None}
use Rattle.wiring.specs.Wiring.{In, IsAcyclic}
use Rattle.hw_model.specs.Types.{Name}
use Rattle.hw_model.specs.Kinds.{Instance}
use Rattle.hw_model.specs.Design.{Op, Design, find_module, instance_in}
use Rattle.hw_model.specs.Sound.{body_of}

abbrev pub called_by : Option Instance → List Name
called_by None = []
called_by (Some i) = i.symbol ∷ []

-- the symbols of the modules that a body instances
abbrev pub callee_symbols : List Op → List Name
callee_symbols [] = []
callee_symbols (o ∷ os) = called_by (instance_in o.kind) ++ callee_symbols os

-- those that the module of a symbol instances
abbrev pub calls : Design → Name → List Name
calls d s = callee_symbols (body_of (find_module d s))

-- no module is within itself, directly or through others
abbrev pub HasNoRecursion : Design → Type 0
HasNoRecursion d = IsAcyclic (calls d)

-- e is d without the module of a symbol, which nothing instances: each other symbol finds what it found
pub record IsWithout (d e : Design) (gone : Name) : Type 0 where
  pub others : (s : Name) → (s ≡ gone → ⊥) → find_module e s ≡ find_module d s
  pub absent : find_module e gone ≡ None
  pub unused : (s : Name) → In gone (calls d s) → ⊥
