-- What every pass keeps of a design.
use Rattle.std.specs.Prelude.{◌≡◌, ◌≤◌, Bool, true, false, cond, List, map, Option, Some}
use Rattle.std.specs.List.{flat_map}
use Rattle.hw_model.specs.Types.{Name, HwType}
use Rattle.hw_model.specs.Design.{Port, Module, Design, find_module, result_type}
use Rattle.hw_model.specs.Flat.{Slot, registers}
use Rattle.hw_model.specs.Hierarchy.{calls}
use Rattle.hw_model.specs.Machine.{Same}
use Rattle.hw_model.specs.Meaning.{machine}
use Rattle.hw_model.specs.Weight.{weight}
use Rattle.op_verifier.specs.Verdict.{IsAccepted}
use Rattle.printing_laws.specs.Printable.{Printable}
use Rattle.pass_pipeline.specs.declared.pass.Pass.{Pass}
use Rattle.aggregate_laws.specs.Leaves.{leaves_of}
use Rattle.aggregate_laws.specs.LeafPorts.{split_ports}
use Rattle.pass_laws.specs.Remaining.{is_flatten, is_lowering, has_pass, symbols, IsPublic, IsKept, AreThose, AreWithin}

-- ---- the look of a module

-- the ports that passes leave a module with these ports: where aggregates are lowered, their leaves
abbrev pub ports_after : List Pass → List Port → List Port
ports_after passes ports = cond (has_pass is_lowering passes) (split_ports ports) ports

-- the types of the leaves of a type that there may be
abbrev pub leaf_types : Option HwType → List (Option HwType)
leaf_types t = map (λ (u : HwType). Some u) (leaves_of t)

-- the types of the registers that passes leave of registers of these types
abbrev pub register_types_after : List Pass → List (Option HwType) → List (Option HwType)
register_types_after passes types = cond (has_pass is_lowering passes) (flat_map leaf_types types) types

-- the types of the registers of a flattened module, in the order of its content
abbrev pub register_types : Design → Name → List (Option HwType)
register_types d s = map (λ (r : Slot). result_type r.op 0) (registers d s)

-- the instances that a module had in d: they are those that it has; or, where modules are flattened, those of public
-- modules stand in order among those that it has
abbrev pub InstancesStay : (flattened : Bool) → Design → List Name → List Name → Type 0
InstancesStay false d before after = after ≡ before
InstancesStay true d before after = (public : List Name) × AreThose (IsPublic d) before public × AreWithin public after

-- ---- designs

-- a module m of d that remains as n in e: its mark and its position stay, its ports and its registers are those that passes
-- leave, its instances stand in order, and it is no heavier
pub record IsModuleAfter (passes : List Pass) (d e : Design) (s : Name) (m n : Module) : Type 0 where
  pub mark : n.is_private ≡ m.is_private
  pub location : n.location ≡ m.location
  pub ports : n.ports ≡ ports_after passes m.ports
  pub registers : register_types e s ≡ register_types_after passes (register_types d s)
  pub instances : InstancesStay (has_pass is_flatten passes) d (calls d s) (calls e s)
  pub weight : weight e s ≤ weight d s

-- a design that passes leave of d: it is accepted and printable, its modules are those that remain, in order, each kept,
-- and each public module does what it did
pub record IsAfter (passes : List Pass) (d e : Design) : Type 0 where
  pub accepted : IsAccepted e
  pub printable : Printable e
  pub order : AreThose (IsKept passes d) (symbols d) (symbols e)
  pub modules : (s : Name) (m n : Module) → find_module d s ≡ Some m → find_module e s ≡ Some n → IsModuleAfter passes d e s m n
  pub same : (s : Name) → IsPublic d s → Same (machine d s) (machine e s)

-- whatever a relation has for an accepted and printable design is left of it by passes
abbrev pub PassLaw : List Pass → (Design → Design → Type 0) → Type 0
PassLaw passes Makes = (d e : Design) → IsAccepted d → Printable d → Makes d e → IsAfter passes d e
