-- Lists of which each member is so; texts that are bytes.
use Rattle.std.specs.Prelude.{ℕ, ◌<◌, List, [], ◌∷◌, Option, Some, None, ⊤}
use Rattle.hw_model.specs.Types.{Name}

-- each of a list is so
abbrev pub Each : {A : Type 0} → (A → Type 0) → List A → Type 0
Each P [] = ⊤
Each P (x ∷ xs) = P x × Each P xs

-- bytes, and no greater numbers
abbrev pub AreBytes : List ℕ → Type 0
AreBytes bytes = Each (λ b. b < 256) bytes

-- a name, or none
abbrev pub MayBeBytes : Option Name → Type 0
MayBeBytes None = ⊤
MayBeBytes (Some name) = AreBytes name
