-- Bodies of modules of fit designs (CIRCT, HW dialect: hw.module).
use Rattle.std.specs.Prelude.{◌≡◌, ℕ, Some, slice_get}
use Rattle.hw_model.specs.Design.{Module, Design}
use Rattle.ir_store.specs.declared.body.Body.{Body}
use Rattle.acceptance_laws.specs.Keeps.{IsFit}
use Rattle.body_edits.specs.Views.{body_ops}

-- the body is that of a module of a fit design
pub record IsOfFit (b : Body) : Type 0 where
  pub design : Design
  pub fit : IsFit design
  pub number : ℕ
  pub owner : Module
  pub there : slice_get design number ≡ Some owner
  pub is_body : owner.body ≡ body_ops b
