-- The same bits as leaves of another type: each leaf is the bits of the leaves that it overlaps, joined (CIRCT, HW dialect:
-- `hw.bitcast` as `hw-lower-aggregates` leaves it).
use Rattle.std.specs.Prelude.{ℕ, zero, suc, ◌+◌, ◌-◌, min, List, [], ◌∷◌, ◌++◌, map, length}
use Rattle.hw_model.specs.Types.{HwType, width, leaves}
use Rattle.hw_model.specs.Types.HwType.{int}
use Rattle.hw_model.specs.Kinds.Kind.{extract, concat}
use Rattle.hw_model.specs.Design.{Ref, Op}
use Rattle.hw_model.specs.Design.Ref.{result}
use Rattle.aggregate_laws.specs.Leaves.{in_row, part}
use Rattle.aggregate_laws.specs.Rules.{Rule}
use Rattle.aggregate_laws.specs.OperationRules.{made_op, all_leaves, argument}

-- bits of one of some values: its number and type, the lowest bit, and how many bits
pub record Piece : Type 0 where
  pub value : ℕ
  pub type : HwType
  pub low : ℕ
  pub size : ℕ

-- so many bits of the i-th value after some bits, where these are any, and then others
abbrev pub with_piece : ℕ → HwType → ℕ → ℕ → List Piece → List Piece
with_piece i u skip zero others = others
with_piece i u skip (suc k) others = record { value = i; type = u; low = width u - skip - suc k; size = suc k } ∷ others

-- of values of types, counted from a number on, `size` bits after the first `skip` bits
abbrev pub pieces : ℕ → List HwType → ℕ → ℕ → List Piece
pieces i [] skip size = []
pieces i (u ∷ us) skip size =
    with_piece i u skip (min (width u - skip) size) (pieces (suc i) us (skip - width u) (size - min (width u - skip) size))

-- as an integer
abbrev pub piece_type : Piece → HwType
piece_type p = int p.size

-- an extract for each of the pieces
abbrev pub extracts : Op → List Ref → List Piece → List Op
extracts o rs [] = []
extracts o rs (p ∷ ps) = made_op o (extract p.low) (part rs p.value ∷ []) (p.type ∷ int p.size ∷ []) [] (int p.size) ∷ extracts o rs ps

-- pieces joined, beginning at a position; one piece is an extract alone
abbrev pub joined_pieces : Op → List Ref → HwType → ℕ → List Piece → List Op
joined_pieces o rs t start (p ∷ []) = made_op o (extract p.low) (part rs p.value ∷ []) (p.type ∷ t ∷ []) [] t ∷ []
joined_pieces o rs t start ps = extracts o rs ps ++ (made_op o concat (in_row (λ i. result i 0) start (length ps)) (map piece_type ps) [] t ∷ [])

-- where the last of these stands
abbrev pub joined_end : List Piece → ℕ
joined_end (p ∷ []) = 0
joined_end ps = length ps

-- all leaves, from a bit on and beginning at a position
abbrev pub leaf_pieces : Op → List Ref → List HwType → ℕ → ℕ → List HwType → List Op
leaf_pieces o rs us skip start [] = []
leaf_pieces o rs us skip start (t ∷ ts) =
    joined_pieces o rs t start (pieces 0 us skip (width t))
    ++ leaf_pieces o rs us (skip + width t) (start + suc (joined_end (pieces 0 us skip (width t)))) ts

-- how many operations these are, and where the last of the i-th leaf stands
abbrev pub piece_count : List HwType → ℕ → List HwType → ℕ
piece_count us skip [] = 0
piece_count us skip (t ∷ ts) = suc (joined_end (pieces 0 us skip (width t))) + piece_count us (skip + width t) ts

abbrev pub piece_end : List HwType → ℕ → List HwType → ℕ → ℕ
piece_end us skip [] i = 0
piece_end us skip (t ∷ ts) zero = joined_end (pieces 0 us skip (width t))
piece_end us skip (t ∷ ts) (suc i) = suc (joined_end (pieces 0 us skip (width t))) + piece_end us (skip + width t) ts i

-- `hw.bitcast` of a value of type u
abbrev pub bitcast_rule : Op → HwType → Rule
bitcast_rule o u = record {
  count = piece_count (leaves u) 0 (all_leaves o);
  position = λ l. piece_end (leaves u) 0 (all_leaves o) l;
  made = λ args start. leaf_pieces o (argument 0 args) (leaves u) 0 start (all_leaves o);
}
