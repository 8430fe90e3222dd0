-- The values of a flat body as tables of words: those of its ports by their numbers, and the first results of its operations by
-- their positions.
use Rattle.std.specs.Prelude.{◌≡◌, ℕ, ◌+◌, ◌≤◌, false, cond, nat_lt, ◌||◌, List, [], ◌∷◌, ◌++◌, map, length, replicate, Option, Some, None, slice_get, slice_set, slice_index_or}
use Rattle.bits_core.specs.Word.{Word, flag}
use Rattle.hw_model.specs.Types.HwType.{int}
use Rattle.hw_model.specs.Kinds.{Kind}
use Rattle.hw_model.specs.Kinds.Kind.{bitcast, wire}
use Rattle.hw_model.specs.Design.{Ref, Port, Op, is_register, is_output_op}
use Rattle.hw_model.specs.Design.Ref.{port, result, undefined}
use Rattle.hw_model.specs.Flat.{held_width}
use Rattle.hw_model.specs.Value.{op_value}
use Rattle.hw_model.specs.IntegerKinds.{TakesWords}

-- the word at a place; a bit of 0 where there is no such place
abbrev pub cell : List Word → ℕ → Word
cell table i = slice_index_or table i (flag false)

-- so many bits of 0, each a word
abbrev pub no_words : ℕ → List Word
no_words n = replicate n (flag false)

-- the table with a word at a place, where there is such a place
abbrev pub put : List Word → ℕ → Word → List Word
put table i x = cond (nat_lt i (length table)) (slice_set table i x) table

-- the word of a value
abbrev pub word_in : List Word → List Word → Ref → Word
word_in ports results (port j) = cell ports j
word_in ports results (result i k) = cell results i
word_in ports results undefined = flag false

-- the table with words at places
abbrev pub with_words : List ℕ → List Word → List Word → List Word
with_words [] xs table = table
with_words (p ∷ ps) [] table = table
with_words (p ∷ ps) (x ∷ xs) table = with_words ps xs (put table p x)

-- the place of a port, if it is an input
abbrev pub own_place : ℕ → Port → List ℕ
own_place j p = cond p.is_output [] (j ∷ [])

-- the places of the input ports, of which the first port has the number
abbrev pub input_places : ℕ → List Port → List ℕ
input_places j [] = []
input_places j (p ∷ ps) = own_place j p ++ input_places (j + 1) ps

-- the position of an operation, if it is a register
abbrev pub own_position : ℕ → Op → List ℕ
own_position i o = cond (is_register o) (i ∷ []) []

-- the positions of the registers, of which the first operation has the number
abbrev pub register_positions : ℕ → List Op → List ℕ
register_positions i [] = []
register_positions i (o ∷ os) = own_position i o ++ register_positions (i + 1) os

-- ---- operations

-- the first result of an operation that is no register
abbrev pub made : Op → List Word → Word
made o xs = op_value o.kind [] (int (held_width o)) 0 xs

-- the words that a kind takes with a result of w bits
abbrev pub Makes : Kind → ℕ → List Word → Type 0
Makes bitcast w xs = length xs ≡ 1
Makes wire w xs = length xs ≡ 1
Makes kind w xs = TakesWords kind w xs

-- an operation of a kind may have these words as operands and a result of w bits
pub record CanMake (kind : Kind) (w : ℕ) (xs : List Word) : Type 0 where
  pub least : 1 ≤ w
  pub most : w ≤ 128
  pub words : Makes kind w xs

-- the operation at a position does, if it is no register and no output
abbrev pub OpCanMake : List Word → List Word → Option Op → Type 0
OpCanMake ports results None = Unit {0}
OpCanMake ports results (Some o) = (is_register o || is_output_op o) ≡ false → CanMake o.kind (held_width o) (map (word_in ports results) o.operands)

-- the results with the word of the operation at a position; a register has its content there, and an output no result
abbrev pub with_op : List Word → List Word → ℕ → Option Op → List Word
with_op ports results i None = results
with_op ports results i (Some o) = cond (is_register o || is_output_op o) results (put results i (made o (map (word_in ports results) o.operands)))

-- operation by operation
abbrev pub settled_results : List Word → List Op → List ℕ → List Word → List Word
settled_results ports os [] results = results
settled_results ports os (i ∷ order) results = settled_results ports os order (with_op ports results i (slice_get os i))

-- each operation takes the words of its operands, once those before it have theirs
abbrev pub TableFits : List Word → List Op → List ℕ → List Word → Type 0
TableFits ports os [] results = Unit {0}
TableFits ports os (i ∷ order) results = OpCanMake ports results (slice_get os i) × TableFits ports os order (with_op ports results i (slice_get os i))
