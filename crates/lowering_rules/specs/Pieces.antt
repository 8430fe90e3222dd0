-- The pieces of which the leaves of a bitcast are made, in code.
use Rattle.std.specs.Prelude.{◌≡◌, ℕ, zero, suc, ◌+◌, ◌≤◌, cond, nat_eq, List, [], ◌∷◌, length, map}
use Rattle.hw_model.specs.Types.{HwType, width}
use Rattle.hw_model.specs.TypeViews.{type_of}
use Rattle.aggregate_laws.specs.Bitcasts.{Piece, pieces}
use Rattle.lowering_rules.specs.declared.pieces.Piece.{Piece as CodePiece}
use Rattle.lowering_rules.specs.declared.pieces.Rest.{Rest}

-- the value, the lowest bit and the size of a piece
pub record PieceView : Type 0 where
  pub value : ℕ
  pub low : ℕ
  pub size : ℕ

abbrev pub code_piece : CodePiece → PieceView
code_piece c = record { value = c.value; low = c.low; size = c.size }

abbrev pub piece_view : Piece → PieceView
piece_view p = record { value = p.value; low = p.low; size = p.size }

-- a piece of so many bits, where these are any
abbrev pub pushed_piece : ℕ → ℕ → ℕ → List PieceView
pushed_piece value low zero = []
pushed_piece value low (suc k) = record { value = value; low = low; size = suc k } ∷ []

-- of values of types, counted from a number on, the pieces of each leaf of others, after some bits
abbrev pub leaf_pieces_of : ℕ → List HwType → ℕ → List HwType → List (List Piece)
leaf_pieces_of i us skip [] = []
leaf_pieces_of i us skip (t ∷ ts) = pieces i us skip (width t) ∷ leaf_pieces_of i us (skip + width t) ts

-- how many operations stand before what joins pieces; one is not joined
abbrev pub end_of : List CodePiece → ℕ
end_of (c ∷ []) = 0
end_of cs = length cs

-- no more bits are skipped than the first value has
abbrev pub SkipsWithin : ℕ → List HwType → Type 0
SkipsWithin skip [] = Unit {0}
SkipsWithin skip (u ∷ us) = skip ≤ width u

-- the types of the values that are left
abbrev pub rest_types : Rest → List HwType
rest_types r = map type_of r.types.now

-- so many bits of the first value, which has a width, are cut off what was left, and this is what is left of it now; `others` are
-- the types of the others
pub record IsRestAfter (before : Rest) (others : List HwType) (own width : ℕ) (now : Rest) : Type 0 where
  pub types_are : rest_types now ≡ cond (nat_eq (before.skip + own) width) others (rest_types before)
  pub value_is : now.value ≡ cond (nat_eq (before.skip + own) width) (before.value + 1) before.value
  pub skip_is : now.skip ≡ cond (nat_eq (before.skip + own) width) 0 (before.skip + own)

-- the pieces of so many bits are cut off what was left, and this is what is left of it now
pub record IsCutOff (before : Rest) (size : ℕ) (ps : List CodePiece) (now : Rest) : Type 0 where
  pub pieces_are : map code_piece ps ≡ map piece_view (pieces before.value (rest_types before) before.skip size)
  pub further : (k more : ℕ) → pieces now.value (rest_types now) (now.skip + k) more ≡ pieces before.value (rest_types before) (before.skip + size + k) more
  pub within : SkipsWithin now.skip (rest_types now)
