-- The pieces in which a text goes out, and what it is that a sink was sent just these.
use Rattle.std.specs.Prelude.{◌≡◌, ℕ, ◌+◌, ◌-◌, ◌/◌, List, [], ◌∷◌, zero, suc, take, drop, length, Bool, true, false, ◌⊎◌}

-- the first `count` pieces of a text, of `size` bytes each or what is left
abbrev pub first_pieces : ℕ → ℕ → List ℕ → List (List ℕ)
first_pieces size zero text = []
first_pieces size (suc count) text = take size text ∷ first_pieces size count (drop size text)

-- a text in pieces of `size` bytes, of which the last may be shorter; an empty text has none
unfoldable pub pieces_of : ℕ → List ℕ → List (List ℕ)
pieces_of size text = first_pieces size ((length text + (size - 1)) / size) text

-- puts of these pieces, in order and no others, lead from one state of a sink to another: all were taken, or the last was not
abbrev pub Sends : {S : Type 0} → (S → List ℕ → Bool → S → Type 0) → S → List (List ℕ) → Bool → S → Type 0
Sends puts before [] taken after = (taken ≡ true) × (after ≡ before)
Sends {S} puts before (piece ∷ pieces) taken after =
    ((taken ≡ false) × puts before piece false after) ⊎ ((next : S) × puts before piece true next × Sends puts next pieces taken after)
