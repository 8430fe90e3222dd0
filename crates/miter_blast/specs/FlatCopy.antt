-- The copy of one module of a design as a design of that module alone, flat and without aggregates (CIRCT documentation, "Passes":
-- `hw-flatten-modules`, `hw-lower-aggregates`; MLIR documentation, "Passes": `symbol-dce`).
use Rattle.std.specs.Prelude.{◌≡◌, ◌≤◌, ℕ, Bool, not, false, [], ◌∷◌, map, Some, slice_get}
use Rattle.std.specs.List.{flat_map}
use Rattle.hw_model.specs.Types.{Name}
use Rattle.hw_model.specs.Design.{Module, Design, same_name}
use Rattle.hw_model.specs.Flat.{instances}
use Rattle.hw_model.specs.Machine.{Same}
use Rattle.hw_model.specs.Meaning.{machine}
use Rattle.hw_model.specs.Weight.{weight}
use Rattle.op_verifier.specs.Verdict.{IsAccepted}
use Rattle.printing_laws.specs.Printable.{Printable}
use Rattle.aggregate_laws.specs.LeafPorts.{split_ports}
use Rattle.aggregate_laws.specs.Scalars.{has_aggregates}
use Rattle.pass_laws.specs.PassLaw.{leaf_types, register_types}
use Rattle.inline_pass.specs.DeadModules.{IsWithoutDead}
use Rattle.inline_pass.specs.Flattening.{IsFlattened}
use Rattle.aggregate_lower.specs.Lowering.{lowered_aggregates}

-- ---- marks

-- the design whose modules are private as a test says (CIRCT, HW dialect: `hw.module private`)
abbrev pub with_marks : (Module → Bool) → Design → Design
with_marks is_marked d = map (λ (m : Module). record m { is_private = is_marked m }) d

-- whether a module has another symbol
abbrev pub is_other : Name → Module → Bool
is_other s m = not (same_name m.symbol s)

-- the design in which the module of a symbol is public and all others are private
abbrev pub only_public : Design → Name → Design
only_public d s = with_marks (is_other s) d

-- e is the design in which the module of a number is public and all others are private
abbrev pub IsOnlyPublicAt : Design → ℕ → Design → Type 0
IsOnlyPublicAt d n e = (m : Module) × (slice_get d n ≡ Some m) × (e ≡ only_public d m.symbol)

-- ---- copies

-- e is the module of the symbol s of d alone: what instances do not lead to from it is gone before anything is flattened, what
-- it instances is part of it, and its aggregates are their leaves
abbrev pub IsFlatCopy : Design → Name → Design → Type 0
IsFlatCopy d s e = (g : Design) × (f : Design) × IsWithoutDead (only_public d s) g × IsFlattened g f × (e ≡ lowered_aggregates f)

-- e is that of the module of a number
abbrev pub IsFlatCopyAt : Design → ℕ → Design → Type 0
IsFlatCopyAt d n e = (m : Module) × (slice_get d n ≡ Some m) × IsFlatCopy d m.symbol e

-- what a copy e keeps of a module m of d: it is one module of the same symbol, its ports and its registers are the leaves of
-- those of m, it instances nothing, no value has an aggregate type, it is no heavier, and it does what m did
pub record KeepsFlat (d : Design) (m : Module) (e : Design) : Type 0 where
  pub accepted : IsAccepted e
  pub printable : Printable e
  pub one : Module
  pub is_one : e ≡ one ∷ []
  pub symbol : one.symbol ≡ m.symbol
  pub ports : one.ports ≡ split_ports m.ports
  pub flat : instances one.body ≡ []
  pub scalar : has_aggregates e ≡ false
  pub registers : register_types e m.symbol ≡ flat_map leaf_types (register_types d m.symbol)
  pub weight : weight e m.symbol ≤ weight d m.symbol
  pub same : Same (machine d m.symbol) (machine e m.symbol)
