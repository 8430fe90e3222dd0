-- Designs that follow from one another by edits of bodies, as passes make them that keep all modules.
use Rattle.std.specs.Prelude.{◌≡◌, cond, List, [], ◌∷◌, ◌++◌, Option, Some, None, ⊤}
use Rattle.hw_model.specs.Types.{Name, HwType}
use Rattle.hw_model.specs.Kinds.{Instance}
use Rattle.hw_model.specs.Design.{Op, Module, Design, instance_in, is_register, result_type}
use Rattle.hw_model.specs.Hierarchy.{callee_symbols, calls}
use Rattle.hw_model.specs.Machine.{Same}
use Rattle.hw_model.specs.Meaning.{machine}
use Rattle.acceptance_laws.specs.Keeps.{IsFit}
use Rattle.pass_laws.specs.PassLaw.{register_types}

-- ---- the shape of a body

-- the types of the registers within an instance, `inner` giving those of the module of a symbol
abbrev pub instance_held : (Name → List (Option HwType)) → Option Instance → List (Option HwType)
instance_held inner None = []
instance_held inner (Some i) = inner i.symbol

-- the types of the content of an operation: of a register its own, of an instance those of its module's registers
abbrev pub op_held : (Name → List (Option HwType)) → Op → List (Option HwType)
op_held inner o = cond (is_register o) (result_type o 0 ∷ []) (instance_held inner (instance_in o.kind))

-- the types of the content of a body, in text order
abbrev pub body_held : (Name → List (Option HwType)) → List Op → List (Option HwType)
body_held inner [] = []
body_held inner (o ∷ os) = op_held inner o ++ body_held inner os

-- a body with registers of the same types and instances of the same modules, in the same order
pub record SameShape (os os' : List Op) : Type 0 where
  pub held : (inner : Name → List (Option HwType)) → body_held inner os' ≡ body_held inner os
  pub called : callee_symbols os' ≡ callee_symbols os

-- ---- headers

-- a module with the same symbol, private mark, position and ports
pub record SameHeader (m n : Module) : Type 0 where
  pub symbol : n.symbol ≡ m.symbol
  pub mark : n.is_private ≡ m.is_private
  pub location : n.location ≡ m.location
  pub ports : n.ports ≡ m.ports

-- the modules of two designs have the same headers, one by one
abbrev pub SameHeaders : Design → Design → Type 0
SameHeaders [] [] = ⊤
SameHeaders (m ∷ d) (n ∷ e) = SameHeader m n × SameHeaders d e
SameHeaders [] (n ∷ e) = ⊥
SameHeaders (m ∷ d) [] = ⊥

-- ---- designs

-- e is fit, and its modules do what those of d do, with their headers, the types of their registers and their instances
pub record IsSteady (d e : Design) : Type 0 where
  pub fit : IsFit e
  pub same : (s : Name) → Same (machine d s) (machine e s)
  pub headers : SameHeaders d e
  pub registers : (s : Name) → register_types e s ≡ register_types d s
  pub instances : (s : Name) → calls e s ≡ calls d s
