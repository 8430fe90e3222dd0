-- Steps of a run.
use Rattle.std.specs.Prelude.{◌≡◌, ℕ, List, [], ◌∷◌, length}
use Rattle.bits_core.specs.Word.{Word}

-- each word has so many bits
abbrev pub AreWide : ℕ → List Word → Type 0
AreWide n [] = Unit {0}
AreWide n (x ∷ xs) = (length x ≡ n) × AreWide n xs
