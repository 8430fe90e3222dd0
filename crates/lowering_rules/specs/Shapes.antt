-- How many operations become of one, and where among these its leaves stand, counted from the first on.
use Rattle.std.specs.Prelude.{◌≡◌, ℕ, ◌+◌, ◌-◌, List, [], ◌∷◌, length, map, replicate}
use Rattle.hw_model.specs.Types.{leaves}
use Rattle.hw_model.specs.Value.{nth_type}
use Rattle.hw_model.specs.Design.{Op}
use Rattle.aggregate_laws.specs.Leaves.{in_row}
use Rattle.aggregate_laws.specs.Rules.{Rule}
use Rattle.aggregate_laws.specs.OperationRules.{all_leaves}
use Rattle.aggregate_laws.specs.Choices.{element_of}
use Rattle.aggregate_laws.specs.Bitcasts.{joined_end}
use Rattle.aggregate_laws.specs.Aggregates.{array_length, element_type, first_type}
use Rattle.lowering_rules.specs.Pieces.{leaf_pieces_of}
use Rattle.lowering_rules.specs.declared.shapes.Shape.{Shape}

-- where each leaf stands, `next` being the next position: after so many operations of its own
abbrev pub ends : ℕ → List ℕ → List ℕ
ends next [] = []
ends next (size ∷ sizes) = (next + size) ∷ ends (next + size + 1) sizes

-- the position after the last
abbrev pub last_end : ℕ → List ℕ → ℕ
last_end next [] = next
last_end next (size ∷ sizes) = last_end (next + size + 1) sizes

-- the shape is that of the rule, for an operation
pub record HasShape (rule : Rule) (o : Op) (s : Shape) : Type 0 where
  pub count : s.count ≡ rule.count
  pub offsets : s.offsets.items ≡ in_row rule.position 0 (length (all_leaves o))

-- so many operations, and these positions
pub record HasOffsets (count : ℕ) (offsets : List ℕ) (s : Shape) : Type 0 where
  pub count_is : s.count ≡ count
  pub positions_are : s.offsets.items ≡ offsets

-- those of blocks of operations, one for each leaf, after others
abbrev pub HasBlocks : ℕ → List ℕ → Shape → Type 0
HasBlocks first sizes s = HasOffsets (last_end first sizes) (ends first sizes) s

-- ---- sizes of blocks

-- how many operations test an index of an array
abbrev pub test_count : Op → ℕ
test_count o = array_length (nth_type o.types 0) + array_length (nth_type o.types 0)

-- among how many elements each of so many leaves is chosen, where these are of an element
abbrev pub get_sizes : Op → ℕ → List ℕ
get_sizes o count = replicate count (array_length (nth_type o.types 0))

-- where they are of a part of an array
abbrev pub slice_sizes : Op → ℕ → List ℕ
slice_sizes o count =
    in_row (λ l. array_length (nth_type o.types 0) - element_of (array_length (first_type o)) (length (leaves (element_type (nth_type o.types 0)))) l) 0 count

-- how many operations stand before what joins the pieces of each leaf of a bitcast
abbrev pub bitcast_sizes : Op → List ℕ
bitcast_sizes o = map joined_end (leaf_pieces_of 0 (leaves (nth_type o.types 0)) 0 (all_leaves o))
