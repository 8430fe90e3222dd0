-- Edits of a body: where its operations go, and what stands in the new body for a value of the old one.
use Rattle.std.specs.Prelude.{◌≡◌, ℕ, Bool, true, cond, List, [], map, take, Option, Some, None, is_some, slice_get, option_map}
use Rattle.std.specs.List.{filter}
use Rattle.bits_core.specs.Word.{Word}
use Rattle.hw_model.specs.Types.{HwType}
use Rattle.hw_model.specs.Design.{Ref, Op, Module, is_instance, is_register, is_output_op, result_type}
use Rattle.hw_model.specs.Value.{op_value}
use Rattle.hw_model.specs.Sound.{body_of, ports_of}
use Rattle.hw_model.specs.Design.Ref.{port, result, undefined}

-- ---- operands

-- an operation with each operand changed
abbrev pub retarget : (Ref → Ref) → Op → Op
retarget f o = record o { operands = map f o.operands }

-- ---- the operations that carry a module's shape: registers, instances and outputs

abbrev pub is_anchor : Op → Bool
is_anchor o = cond (is_register o) true (cond (is_instance o) true (is_output_op o))

-- those of a body, in order
abbrev pub anchors : List Op → List Op
anchors os = filter is_anchor os

-- ---- edits

-- the operation at position j stands at position j' of the new body, with `stand` of its operands, after the same
-- registers and instances
pub record Kept (os os' : List Op) (stand : Ref → Ref) (j j' : ℕ) : Type 0 where
  pub op : slice_get os' j' ≡ option_map (retarget stand) (slice_get os j)
  pub before : anchors (take j' os') ≡ map (retarget stand) (anchors (take j os))
  pub stands : (k : ℕ) → stand (result j k) ≡ result j' k

-- an edit of a body: what stands in the new body for a value of the old one, the same registers, instances and outputs
-- in the same order, and for each position of the old body where its operation now is, unless it is changed or gone
pub record Edit (os os' : List Op) : Type 0 where
  pub stand : Ref → Ref
  pub port_is : (j : ℕ) → stand (port j) ≡ port j
  pub undefined_is : stand undefined ≡ undefined
  pub anchors_are : anchors os' ≡ map (retarget stand) (anchors os)
  pub position : ℕ → Option ℕ
  pub kept : (j j' : ℕ) → position j ≡ Some j' → Kept os os' stand j j'

-- a module and what an edit of its body makes of it; its ports stay
pub record EditedModule (old new : Option Module) : Type 0 where
  pub is_there : is_some new ≡ is_some old
  pub ports_are : ports_of new ≡ ports_of old
  pub edit : Edit (body_of old) (body_of new)

-- ---- what a body says of its values

abbrev pub result_word : (Ref → Word) → Op → ℕ → Option HwType → Word
result_word τ o k None = []
result_word τ o k (Some t) = op_value o.kind o.types t k (map τ o.operands)

abbrev pub word_of_op : (Ref → Word) → ℕ → Op → Option Word
word_of_op τ k o =
    cond (is_register o) None (cond (is_instance o) None (cond (is_output_op o) (Some []) (Some (result_word τ o k (result_type o k)))))

-- the word of an operation's result k under a map of the body's values; None where the body alone does not say it, as of
-- registers and instances
abbrev pub word_of : (Ref → Word) → ℕ → Option Op → Option Word
word_of τ k None = Some []
word_of τ k (Some o) = word_of_op τ k o

-- each value has the word that the body says it has, but for the results of the operation at one position
pub record HoldsBut (os : List Op) (τ : Ref → Word) (Left : ℕ → Type 0) : Type 0 where
  pub undefined_is : τ undefined ≡ []
  pub result_is : (j k : ℕ) (w : Word) → (Left j → ⊥) → word_of τ k (slice_get os j) ≡ Some w → τ (result j k) ≡ w

-- each value has the word that the body says it has
abbrev pub Holds : List Op → (Ref → Word) → Type 0
Holds os τ = HoldsBut os τ (λ j. ⊥)
