-- The operations that pieces of values become, in code.
use Rattle.std.specs.Prelude.{ℕ, zero, suc, ◌+◌, List, [], ◌∷◌, ◌++◌, length, map}
use Rattle.hw_model.specs.Types.{HwType}
use Rattle.hw_model.specs.Types.HwType.{int}
use Rattle.hw_model.specs.Kinds.Kind.{extract, concat}
use Rattle.hw_model.specs.Value.{nth_type}
use Rattle.hw_model.specs.Design.{Ref, Op}
use Rattle.hw_model.specs.Design.Ref.{result}
use Rattle.aggregate_laws.specs.Leaves.{in_row, part}
use Rattle.aggregate_laws.specs.OperationRules.{made_op}
use Rattle.lowering_rules.specs.Pieces.{PieceView}

-- an extract of a piece, as a type, where the values have types
abbrev pub view_extract : Op → List Ref → List HwType → HwType → PieceView → Op
view_extract o rs us t v = made_op o (extract v.low) (part rs v.value ∷ []) (nth_type us v.value ∷ t ∷ []) [] t

-- a piece as an integer
abbrev pub view_type : PieceView → HwType
view_type v = int v.size

-- an extract of each of the pieces
abbrev pub view_extracts : Op → List Ref → List HwType → List PieceView → List Op
view_extracts o rs us [] = []
view_extracts o rs us (v ∷ vs) = view_extract o rs us (view_type v) v ∷ view_extracts o rs us vs

-- so many extracts from a position on, joined
abbrev pub views_concat : Op → HwType → ℕ → ℕ → List PieceView → Op
views_concat o t start count vs = made_op o concat (in_row (λ i. result i 0) start count) (map view_type vs) [] t

-- pieces joined, beginning at a position; one piece is an extract alone
abbrev pub joined_views : Op → List Ref → List HwType → HwType → ℕ → List PieceView → List Op
joined_views o rs us t start (v ∷ []) = view_extract o rs us t v ∷ []
joined_views o rs us t start vs = view_extracts o rs us vs ++ (views_concat o t start (length vs) vs ∷ [])

-- where the last of these stands
abbrev pub view_end : List PieceView → ℕ
view_end (v ∷ []) = 0
view_end vs = length vs

-- the pieces of a number, or none
abbrev pub nth_views : List (List PieceView) → ℕ → List PieceView
nth_views [] n = []
nth_views (vs ∷ vss) zero = vs
nth_views (vs ∷ vss) (suc n) = nth_views vss n

-- the pieces of all leaves joined, from a number on and beginning at a position
abbrev pub leaf_views : Op → List Ref → List HwType → List (List PieceView) → ℕ → ℕ → List HwType → List Op
leaf_views o rs us vss n start [] = []
leaf_views o rs us vss n start (t ∷ ts) =
    joined_views o rs us t start (nth_views vss n) ++ leaf_views o rs us vss (suc n) (start + suc (view_end (nth_views vss n))) ts
