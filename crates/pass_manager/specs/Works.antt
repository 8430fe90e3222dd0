-- What a pass makes of the bodies of a design, worked one by one.
use Rattle.std.specs.Prelude.{◌≡◌, ℕ, List, [], ◌∷◌, map, Some, slice_get}
use Rattle.hw_model.specs.Design.{Op}
use Rattle.ir_store.specs.declared.body.Body.{Body}
use Rattle.ir_store.specs.BodyOps.{BodyOp}
use Rattle.ir_store.specs.Designs.{StoredModule}
use Rattle.body_edits.specs.FitBodies.{IsOfFit}
use Rattle.body_edits.specs.Views.{body_ops}

-- modules with empty bodies
abbrev pub without_bodies : List StoredModule → List StoredModule
without_bodies ms = map (λ (m : StoredModule). record m { ops = [] }) ms

-- modules with other bodies, the first with the first
abbrev pub with_bodies : List (List BodyOp) → List StoredModule → List StoredModule
with_bodies [] ms = ms
with_bodies (ops ∷ more) [] = []
with_bodies (ops ∷ more) (m ∷ ms) = record m { ops = ops } ∷ with_bodies more ms

-- the body of a module before a pass works on it
pub record IsFirst (before : List Body) (number : ℕ) (body : Body) : Type 0 where
  pub there : slice_get before number ≡ Some body
  pub fit : IsOfFit body

-- what a pass makes of it
abbrev pub IsMade : (List Op → List Op → Type 0) → List Body → ℕ → Body → Type 0
IsMade Makes before number body = (old : Body) → slice_get before number ≡ Some old → Makes (body_ops old) (body_ops body)
