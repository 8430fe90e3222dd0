-- One body of a design is made flat on its own, with the flat bodies of the modules that it instances.
use Rattle.std.specs.Prelude.{◌≡◌, ℕ, List, [], map, length, Option, Some, slice_get, slice_index_or}
use Rattle.std.specs.Arc.{arc_value}
use Rattle.std.specs.declared.sync.Arc.{Arc}
use Rattle.hw_model.specs.Design.{Module, Design}
use Rattle.hw_model.specs.Flat.{depth}
use Rattle.hw_model.specs.Hierarchy.{callee_symbols}
use Rattle.acceptance_laws.specs.Keeps.{IsFit}
use Rattle.ir_store.specs.declared.body.Body.{Body}
use Rattle.ir_store.specs.Designs.{StoredModule, numbered_module}
use Rattle.design_cycles.specs.Calls.{symbols_in, numbers_of}
use Rattle.body_edits.specs.Views.{body_ops}
use Rattle.inline_pass.specs.Flattening.{flat_body}

-- the body is the flat one of the module of a number
abbrev pub IsFlatBody : Design → ℕ → Body → Type 0
IsFlatBody d k b = (m : Module) → slice_get d k ≡ Some m → body_ops b ≡ flat_body (depth d) d m.body

-- the body is that of the module of a number
pub record IsOwnBody (d : Design) (k : ℕ) (b : Body) : Type 0 where
  pub owner : Module
  pub there : slice_get d k ≡ Some owner
  pub is_body : owner.body ≡ body_ops b

-- the modules are those of a design, without their bodies
abbrev pub AreHeaders : Design → List StoredModule → Type 0
AreHeaders d headers = map numbered_module headers ≡ map (λ (m : Module). record m { body = [] }) d

-- a body of a fit design, the numbers of the modules that it instances, and their flat bodies
pub record IsOneBody {Z : Type 0} (d : Design) (k : ℕ) (headers : List StoredModule) (numbers : List ℕ) (received : List (Option (Arc Body Z))) (b : Body) : Type 0 where
  pub fit : IsFit d
  pub headers_are : AreHeaders d headers
  pub own : IsOwnBody d k b
  pub numbers_are : numbers ≡ numbers_of (symbols_in d) (callee_symbols own.owner.body)
  pub many : length received ≡ length numbers
  pub flat : (i : ℕ) (o : Option (Arc Body Z)) → slice_get received i ≡ Some o → (x : Arc Body Z) × (o ≡ Some x) × IsFlatBody d (slice_index_or numbers i 0) (arc_value x)
