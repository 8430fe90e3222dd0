-- The types of results as they are kept.
use Rattle.std.specs.Prelude.{◌≡◌, List, [], ◌∷◌, Option, Some, None, ⊤}
use Rattle.hw_model.specs.Types.{HwType}
use Rattle.hw_model.specs.Types.HwType.{int}
use Rattle.hw_model.specs.Design.{OpResult}

-- a result's type that its operation does not settle
abbrev pub type_or_none : Option HwType → HwType
type_or_none None = int 0
type_or_none (Some t) = t

-- results are of the types that their operation settles, one for each; a name without a result has one of no type
abbrev pub HaveTypes : List OpResult → List (Option HwType) → Type 0
HaveTypes [] [] = ⊤
HaveTypes (r ∷ rs) [] = (r.type ≡ int 0) × HaveTypes rs []
HaveTypes [] (t ∷ ts) = ⊥
HaveTypes (r ∷ rs) (t ∷ ts) = (r.type ≡ type_or_none t) × HaveTypes rs ts
