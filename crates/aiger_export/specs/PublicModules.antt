-- The public modules of a design (CIRCT, HW dialect: `hw.module private`).
use Rattle.std.specs.Prelude.{◌≡◌, ℕ, suc, cond, List, [], ◌∷◌, Option, Some, None, slice_get}
use Rattle.hw_model.specs.Design.{Module, Design}

-- the numbers of the public ones among modules, the first of which has the number
abbrev pub public_from : ℕ → Design → List ℕ
public_from n [] = []
public_from n (m ∷ ms) = cond m.is_private (public_from (suc n) ms) (n ∷ public_from (suc n) ms)

-- the only member of a list
abbrev pub only_one : List ℕ → Option ℕ
only_one [] = None
only_one (n ∷ []) = Some n
only_one (n ∷ k ∷ ns) = None

-- the number of the only public module of a design: none where there is none, or are several
abbrev pub only_public : Design → Option ℕ
only_public d = only_one (public_from 0 d)

-- the module of a number is the only public one
pub record IsOnlyPublic (d : Design) (n : ℕ) (m : Module) : Type 0 where
  pub only : only_public d ≡ Some n
  pub at : slice_get d n ≡ Some m
