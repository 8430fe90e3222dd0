-- Designs in which one body has no instances of private modules left (CIRCT, HW dialect: `hw-flatten-modules`).
use Rattle.std.specs.Prelude.{◌≡◌, ℕ, Some, slice_get}
use Rattle.hw_model.specs.Design.{Module, Design}
use Rattle.edit_laws.specs.Laws.{with_body}
use Rattle.inline_pass.specs.Flattening.{inline_all, private_callee}

-- the second design is the first one with all instances of private modules inlined in the module at a position
pub record HasInlinedAt (k : ℕ) (d e : Design) : Type 0 where
  pub owner : Module
  pub there : slice_get d k ≡ Some owner
  pub is : e ≡ with_body d k owner (inline_all (private_callee d) owner.body)
