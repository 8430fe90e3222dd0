-- Bits as words, one after another.
use Rattle.std.specs.Prelude.{ℕ, ◌≤◌, Bool, List, [], ◌∷◌, take, drop}
use Rattle.wiring.specs.Wiring.{In}
use Rattle.bits_core.specs.Word.{Word}

-- words of these widths
abbrev pub cut : List ℕ → List Bool → List Word
cut [] bits = []
cut (w ∷ ws) bits = take w bits ∷ cut ws (drop w bits)

-- each width is one of 1 to 128
abbrev pub AreWordWidths : List ℕ → Type 0
AreWordWidths ws = (w : ℕ) → In w ws → (1 ≤ w) × (w ≤ 128)
