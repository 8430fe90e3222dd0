-- Names of which none stands twice.
use Rattle.std.specs.Prelude.{◌≡◌, ℕ, List, Some, slice_get}
use Rattle.fresh_names.specs.Fresh.{Name}

-- a name stands in one position only
abbrev pub AreDifferent : List Name → Type 0
AreDifferent ns = (i j : ℕ) (name : Name) → slice_get ns i ≡ Some name → slice_get ns j ≡ Some name → i ≡ j
