-- Flat bodies that go from module to module.
use Rattle.std.specs.Prelude.{◌≡◌, ℕ, List, Option, Some, slice_get}
use Rattle.std.specs.Arc.{arc_value}
use Rattle.std.specs.declared.sync.Arc.{Arc}
use Rattle.hw_model.specs.Design.{Module, Design}
use Rattle.acceptance_laws.specs.Keeps.{IsFit}
use Rattle.ir_store.specs.declared.body.Body.{Body}
use Rattle.ir_store.specs.Designs.{StoredModule}
use Rattle.design_cycles.specs.Calls.{call_lists}
use Rattle.body_edits.specs.Views.{body_ops}
use Rattle.inline_pass.specs.OneBody.{IsFlatBody, AreHeaders}
use Rattle.pass_manager.specs.PublicModules.{kept_body}

-- the modules of a fit design without bodies, and for each the numbers of those that it instances
pub record AreListsOf (d : Design) (headers : List StoredModule) (callees : List (List ℕ)) : Type 0 where
  pub fit : IsFit d
  pub headers_are : AreHeaders d headers
  pub lists_are : callees ≡ call_lists d

-- what goes to the callers of a module: its flat body
abbrev pub IsFlatCopy : {Z : Type 0} → Design → ℕ → Option (Arc Body Z) → Type 0
IsFlatCopy d k copy = (body : Arc Body _) × (copy ≡ Some body) × IsFlatBody d k (arc_value body)

-- the body is what stays of the flat one of the module of a number
abbrev pub IsKeptBody : Design → ℕ → Body → Type 0
IsKeptBody d k b = (m : Module) → slice_get d k ≡ Some m → body_ops b ≡ kept_body d m
