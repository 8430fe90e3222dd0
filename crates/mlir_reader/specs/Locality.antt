-- A refusal is of one token of a text, whatever follows it; and no text that begins so is spelled.
use Rattle.std.specs.Prelude.{◌≡◌, ℕ, ◌≤◌, List, ◌∷◌, ◌++◌, length, map, Err}
use Rattle.diag.specs.declared.refusal.Location.{Location}
use Rattle.diag.specs.declared.refusal.Refusal.{Refusal}
use Rattle.hw_model.specs.Design.{Design}
use Rattle.mlir_lexer.specs.Tokens.{TextToken}
use Rattle.mlir_syntax.specs.Stream.{StreamToken, token, bad, end, stream_of}
use Rattle.mlir_reader.specs.Reading.{text_limit, read}
use Rattle.mlir_reader.specs.Spelling.{Spells}

-- where a token stands
abbrev pub item_location : StreamToken → Location
item_location (token t) = t.location
item_location (bad p) = p
item_location (end p) = p

-- the refused token stands after some tokens, and each text that begins with these tokens and this token is refused alike
abbrev pub IsOfItsToken : List ℕ → Refusal → Type 0
IsOfItsToken source r =
    (prefix : List TextToken) × (symbol : StreamToken) × (rest : List StreamToken) × (stream_of source ≡ map token prefix ++ (symbol ∷ rest)) × (item_location symbol ≡ r.location)
    × ((other : List ℕ) (following : List StreamToken) → length other ≤ text_limit → stream_of other ≡ map token prefix ++ (symbol ∷ following) → read other ≡ Err r)

-- the refused token stands after some tokens, and no text that begins with these tokens and this token spells a design, however long it is
abbrev pub IsUnspelledPrefix : List ℕ → Refusal → Type 0
IsUnspelledPrefix source r =
    (prefix : List TextToken) × (symbol : StreamToken) × (rest : List StreamToken) × (stream_of source ≡ map token prefix ++ (symbol ∷ rest)) × (item_location symbol ≡ r.location)
    × ((other : List ℕ) (following : List StreamToken) (d : Design) → stream_of other ≡ map token prefix ++ (symbol ∷ following) → Spells other d → ⊥)
