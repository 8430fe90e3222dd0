-- A text that goes out by puts, in pieces of any sizes.
use Rattle.std.specs.Prelude.{◌≡◌, ℕ, ◌<◌, List, [], ◌∷◌, ◌++◌, length, Bool}
use Rattle.io_edge.specs.Pieces.{Sends}

-- a text is cut into these pieces, of which none is empty
abbrev pub IsCutInto : List ℕ → List (List ℕ) → Type 0
IsCutInto text [] = text ≡ []
IsCutInto text (piece ∷ pieces) = (rest : List ℕ) × (text ≡ piece ++ rest) × (0 < length piece) × IsCutInto rest pieces

-- a text goes out by puts of pieces that it is cut into, in order and no others: of all of them, or up to the first that is not taken
pub record GoesOut {S : Type 0} (puts : S → List ℕ → Bool → S → Type 0) (before : S) (text : List ℕ) (taken : Bool) (after : S) : Type 0 where
  pub pieces : List (List ℕ)
  pub cut : IsCutInto text pieces
  pub sent : Sends puts before pieces taken after
