-- Designs whose private modules have become parts of those that instance them (CIRCT, HW dialect: `hw-flatten-modules`).
use Rattle.std.specs.Prelude.{ℕ, zero, suc, ◌+◌, cond, List, [], map, length, Option, Some, None, slice_get, option_and_then, option_map}
use Rattle.hw_model.specs.Types.{Name}
use Rattle.hw_model.specs.Kinds.{Kind, Instance}
use Rattle.hw_model.specs.Design.{Op, Module, Design, instance_in, find_module, callee}
use Rattle.hw_model.specs.Flat.{depth}
use Rattle.inline_laws.specs.Inline.{moved_count}
use Rattle.inline_laws.specs.Unwire.{inline_without_wires}
use Rattle.inline_pass.specs.Renaming.{renamed}
use Rattle.inline_pass.specs.DeadModules.{IsWithoutDead}

-- the name of an instance
abbrev pub instance_name : Op → Name
instance_name o = name_of (instance_in o.kind)
  where
    name_of : Option Instance → Name
    name_of None = []
    name_of (Some i) = i.name

-- the body with the instance o at position i of the module c inlined
abbrev pub inlined_at : ℕ → Op → Module → List Op → List Op
inlined_at i o c os = inline_without_wires (renamed (instance_name o)) i o c os

-- an instance at position i becomes the body of the module that `inner` gives for it, and then the rest of the body is worked on
abbrev pub inline_at : (Op → Option Module) → (ℕ → List Op → List Op) → ℕ → List Op → List Op
inline_at inner rest i os = go (slice_get os i)
  where
    position : Op → Option Module → List Op
    position o None = rest (suc i) os
    position o (Some c) = rest (i + moved_count c) (inlined_at i o c os)

    go : Option Op → List Op
    go None = os
    go (Some o) = position o (inner o)

-- so many operations from position i on, one after another
abbrev pub inline_from : (Op → Option Module) → ℕ → ℕ → List Op → List Op
inline_from inner zero i os = os
inline_from inner (suc n) i os = inline_at inner (λ j xs. inline_from inner n j xs) i os

-- all of a body
abbrev pub inline_all : (Op → Option Module) → List Op → List Op
inline_all inner os = inline_from inner (length os) 0 os

-- the private module of which an operation is an instance
abbrev pub private_callee : Design → Op → Option Module
private_callee d o = option_and_then (λ (c : Module). cond c.is_private (Some c) None) (callee d o)

-- a module, if it is private
abbrev pub if_private : Module → Option Module
if_private c = cond c.is_private (Some c) None

-- the private module of a symbol
abbrev pub private_found : Design → Name → Option Module
private_found d s = option_and_then if_private (find_module d s)

-- the module that `look` gives for the symbol of which an operation of a kind is an instance
abbrev pub by_kind : (Name → Option Module) → Kind → Option Module
by_kind look k = option_and_then (λ (i : Instance). look i.symbol) (instance_in k)

-- the module that `look` gives for the symbol of which an operation is an instance
abbrev pub by_symbol : (Name → Option Module) → Op → Option Module
by_symbol look o = by_kind look o.kind

-- a body in which no private module is instanced, down to a depth of instances
abbrev pub flat_body : ℕ → Design → List Op → List Op
flat_body zero d os = os
flat_body (suc n) d os = inline_all (λ o. option_map (λ (c : Module). record c { body = flat_body n d c.body }) (private_callee d o)) os

-- a design in which no private module is instanced
abbrev pub flat_design : Design → Design
flat_design d = map (λ (m : Module). record m { body = flat_body (depth d) d m.body }) d

-- the second design is the first one flattened: without private modules
abbrev pub IsFlattened : Design → Design → Type 0
IsFlattened d e = IsWithoutDead (flat_design d) e
