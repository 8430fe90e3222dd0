-- Rules by which each operation of a module becomes a block of operations (CIRCT, HW dialect: `hw-lower-aggregates`), in the
-- order of the operations: where the leaves of each value stand follows from counting alone.
use Rattle.std.specs.Prelude.{◌≡◌, ℕ, suc, ◌+◌, ◌<◌, ◌⊎◌, Bool, true, false, cond, List, [], ◌∷◌, ◌++◌, map, take, length, Option, Some, None, slice_get, option_and_then}
use Rattle.wiring.specs.Lists.{total}
use Rattle.wiring.specs.Wiring.{In}
use Rattle.bits_core.specs.Word.{Word}
use Rattle.hw_model.specs.Types.{HwType, leaves}
use Rattle.hw_model.specs.Value.{concat_words}
use Rattle.hw_model.specs.Design.{Ref, Port, Op, Module, Design, is_register, is_instance, is_output_op, result_type}
use Rattle.hw_model.specs.Design.Ref.{port, result, undefined}
use Rattle.hw_model.specs.Sound.{HasWidth, OpFits}
use Rattle.edit_laws.specs.Edit.{is_anchor, result_word}
use Rattle.aggregate_laws.specs.Leaves.{in_row, leaf_start, parts_of_port, bare_op, lower_anchor, result_start}
use Rattle.aggregate_laws.specs.Lowered.{whole}

-- what an operation becomes: how many operations, where among these the operation stands whose result is the i-th leaf of
-- its results, and these operations, from what stands for each operand and where the first of them stands
pub record Rule : Type 0 where
  pub count : ℕ
  pub position : ℕ → ℕ
  pub made : List (List Ref) → ℕ → List Op

-- the leaves of ports, with names, and for each operation what it becomes
pub record Rules : Type 0 where
  pub ports : List Port → List Port
  pub rule : Op → Rule

-- ---- bodies

-- how many operations an operation becomes
abbrev pub count_by : Rules → Op → ℕ
count_by rules o = (rules.rule o).count

-- where what the operation at position j becomes begins
abbrev pub begin : Rules → List Op → ℕ → ℕ
begin rules os j = total (map (count_by rules) (take j os))

-- whether all leaves of an operation's results are results of one operation
abbrev pub stays_one : Op → Bool
stays_one o = cond (is_instance o) true (is_output_op o)

-- the i-th leaf of the results of an operation, what it becomes beginning at a position
abbrev pub leaf_ref : Rule → ℕ → Op → ℕ → Ref
leaf_ref rule start o i = cond (stays_one o) (result start i) (result (start + rule.position i) 0)

-- the leaves of a result that there may be, the first having a number
abbrev pub leaf_refs : Rule → ℕ → Op → ℕ → Option HwType → List Ref
leaf_refs rule start o from None = []
leaf_refs rule start o from (Some t) = in_row (leaf_ref rule start o) from (length (leaves t))

abbrev pub parts_of_result : Rules → ℕ → ℕ → Option Op → List Ref
parts_of_result rules start k None = []
parts_of_result rules start k (Some o) = leaf_refs (rules.rule o) start o (result_start o k) (result_type o k)

-- what stands for a value
abbrev pub parts_of : Rules → List Port → List Op → Ref → List Ref
parts_of rules ps os (port j) = parts_of_port (leaf_start ps j) (slice_get ps j)
parts_of rules ps os (result j k) = parts_of_result rules (begin rules os j) k (slice_get os j)
parts_of rules ps os undefined = []

-- what an operation becomes, from a position on
abbrev pub block : Rule → (Ref → List Ref) → ℕ → Op → List Op
block rule parts start o = rule.made (map parts o.operands) start

abbrev pub blocks : Rules → (Ref → List Ref) → ℕ → List Op → List Op
blocks rules parts start [] = []
blocks rules parts start (o ∷ os) = block (rules.rule o) parts start o ++ blocks rules parts (start + count_by rules o) os

-- ---- modules and designs

abbrev pub lowered_module : Rules → Module → Module
lowered_module rules m = record m { ports = rules.ports m.ports; body = blocks rules (parts_of rules m.ports m.body) 0 m.body }

abbrev pub lowered_design : Rules → Design → Design
lowered_design rules d = map (lowered_module rules) d

-- ---- what a rule owes

-- the shape of what an operation becomes: so many operations; of a register, an instance or an output what `lower_anchor`
-- says, but for names, and of all others none of these; and each leaf of a result is a result of its type
pub record SplitsShape (rule : Rule) (parts : Ref → List Ref) (o : Op) : Type 0 where
  pub size : (start : ℕ) → length (block rule parts start o) ≡ rule.count
  pub anchor : is_anchor o ≡ true → (start : ℕ) → map bare_op (block rule parts start o) ≡ lower_anchor parts o
  pub plain : is_anchor o ≡ false → (start : ℕ) (x : Op) → In x (block rule parts start o) → is_anchor x ≡ false
  pub register_has_one : is_register o ≡ true → (k : ℕ) → result_type o (suc k) ≡ None
  pub register_position : is_register o ≡ true → (i : ℕ) → rule.position i ≡ i
  pub leaf_type : is_anchor o ≡ false → (start k i : ℕ) (t u : HwType) → result_type o k ≡ Some t → slice_get (leaves t) i ≡ Some u
      → option_and_then (λ (x : Op). result_type x 0) (slice_get (block rule parts start o) (rule.position (result_start o k + i))) ≡ Some u

-- an operand of the i-th operation of a block that begins at a position: what stands for an operand of the operation that
-- the block is made of, or a result of an operation before it in the block
abbrev pub StandsBefore : (Ref → List Ref) → ℕ → List Ref → ℕ → Ref → Type 0
StandsBefore parts start rs i r = ((x : Ref) × In x rs × In r (parts x)) ⊎ ((n : ℕ) × (n < i) × (r ≡ result (start + n) 0))

-- what is known where a block stands: the types of what stands for a value, and of the block's own results
pub record StandsTyped (old_type new_type : Ref → Option HwType) (parts : Ref → List Ref) (start : ℕ) (os : List Op) : Type 0 where
  pub typed : (r : Ref) (t : HwType) → old_type r ≡ Some t → map new_type (parts r) ≡ map (λ (u : HwType). Some u) (leaves t)
  pub own : (i : ℕ) (x : Op) → slice_get os i ≡ Some x → new_type (result (start + i) 0) ≡ result_type x 0

-- the map has, at the results of a block's operations, their words
abbrev pub BlockHolds : (Ref → Word) → ℕ → List Op → Type 0
BlockHolds τ start os = (i : ℕ) (x : Op) (u : HwType) → slice_get os i ≡ Some x → result_type x 0 ≡ Some u → τ (result (start + i) 0) ≡ result_word τ x 0 (Some u)

-- and what it has to keep there: its operations fit, they are made of what stands before them, and where each has its word,
-- so have the leaves
pub record SplitsWell (rule : Rule) (old_type new_type : Ref → Option HwType) (parts : Ref → List Ref) (start : ℕ) (o : Op) : Type 0 where
  pub fits : (i : ℕ) (x : Op) → slice_get (block rule parts start o) i ≡ Some x → OpFits new_type x
  pub operands : (i : ℕ) (x : Op) (r : Ref) → slice_get (block rule parts start o) i ≡ Some x → In r x.operands → StandsBefore parts start o.operands i r
  pub words : (τ : Ref → Word) → ((r : Ref) → HasWidth (new_type r) (τ r)) → BlockHolds τ start (block rule parts start o)
      → (k : ℕ) (t : HwType) → result_type o k ≡ Some t
      → result_word (whole parts τ) o k (Some t) ≡ concat_words (map τ (leaf_refs rule start o (result_start o k) (Some t)))

-- the operation splits by the rule, where the types of a body are as said; where it becomes any, its first result has a type
pub record Splits (rule : Rule) (old_type : Ref → Option HwType) (parts : Ref → List Ref) (o : Op) : Type 0 where
  pub shape : SplitsShape rule parts o
  pub has_first : is_anchor o ≡ false → (start i : ℕ) (x : Op) → slice_get (block rule parts start o) i ≡ Some x → (t : HwType) × (result_type o 0 ≡ Some t)
  pub well : is_anchor o ≡ false → (new_type : Ref → Option HwType) (start : ℕ) → StandsTyped old_type new_type parts start (block rule parts start o)
      → SplitsWell rule old_type new_type parts start o
