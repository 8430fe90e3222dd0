-- What a call does to the bytes that a sink tells.
use Rattle.std.specs.Prelude.{◌≡◌, ℕ, ◌≤◌, List, ◌++◌, take, length, Option, Some}

-- told bytes grow by all of `bytes`
abbrev pub Appends : Option (List ℕ) → Option (List ℕ) → List ℕ → Type 0
Appends before after bytes = (held : List ℕ) → before ≡ Some held → after ≡ Some (held ++ bytes)

-- told bytes grow by a prefix of `bytes`
abbrev pub AppendsPrefix : Option (List ℕ) → Option (List ℕ) → List ℕ → Type 0
AppendsPrefix before after bytes =
    (held : List ℕ) → before ≡ Some held → (count : ℕ) × (count ≤ length bytes) × (after ≡ Some (held ++ take count bytes))

-- told bytes begin with `bytes`, and lose them
abbrev pub Loses : Option (List ℕ) → Option (List ℕ) → List ℕ → Type 0
Loses before after bytes = (whole : List ℕ) → before ≡ Some whole → (rest : List ℕ) × (whole ≡ bytes ++ rest) × (after ≡ Some rest)
