-- Four edits of one module of a valid design: an operation is changed in place, taken out with another value in the place
-- of its result, put in, or taken out where nothing names it.
use Rattle.std.specs.Prelude.{◌≡◌, ℕ, zero, suc, ◌≤◌, ◌<◌, false, List, map, length, set, Option, Some, None, slice_get, option_map}
use Rattle.std.specs.List.{insert, remove}
use Rattle.wiring.specs.Wiring.{In}
use Rattle.bits_core.specs.Word.{Word}
use Rattle.hw_model.specs.Types.{HwType}
use Rattle.hw_model.specs.Design.{Ref, Op, Module, Design, result_type}
use Rattle.hw_model.specs.Design.Ref.{port, result, undefined}
use Rattle.hw_model.specs.Sound.{type_in, OpFits}
use Rattle.edit_laws.specs.Edit.{retarget, is_anchor, result_word, HoldsBut}
use Rattle.edit_laws.specs.Falls.{LocalHeight}
use Rattle.edit_laws.specs.Follows.{Wide}

-- ---- positions

-- where position j is once something is put in at position i
abbrev pub up : ℕ → ℕ → ℕ
up zero j = suc j
up (suc i) zero = zero
up (suc i) (suc j) = suc (up i j)

-- where position j is once position i is taken out; None at i
abbrev pub down : ℕ → ℕ → Option ℕ
down zero zero = None
down zero (suc j) = Some j
down (suc i) zero = Some zero
down (suc i) (suc j) = option_map suc (down i j)

-- position j where it is not i
abbrev pub other_than : ℕ → ℕ → Option ℕ
other_than zero zero = None
other_than zero (suc j) = Some (suc j)
other_than (suc i) zero = Some zero
other_than (suc i) (suc j) = option_map suc (other_than i j)

-- ---- values

-- a value once an operation is put in at position i
abbrev pub up_ref : ℕ → Ref → Ref
up_ref i (port j) = port j
up_ref i (result j k) = result (up i j) k
up_ref i undefined = undefined

abbrev pub ref_after_erase : Option ℕ → Ref → ℕ → Ref
ref_after_erase (Some j) x k = result j k
ref_after_erase None x zero = x
ref_after_erase None x (suc k) = undefined

-- a value once the operation at position i is taken out, x standing for its first result, and nothing for others
abbrev pub without : ℕ → Ref → Ref → Ref
without i x (port j) = port j
without i x (result j k) = ref_after_erase (down i j) x k
without i x undefined = undefined

-- ---- bodies

-- the operation at position i taken out, the value x of the body standing for its first result
abbrev pub erase_op : ℕ → Ref → List Op → List Op
erase_op i x os = map (retarget (without i (without i undefined x))) (remove os i)

-- an operation put in at position i, its operands being values of the body as it was
abbrev pub insert_op : ℕ → Op → List Op → List Op
insert_op i o os = insert (map (retarget (up_ref i)) os) i (retarget (up_ref i) o)

-- the module at position m of the design with another body
abbrev pub with_body : Design → ℕ → Module → List Op → Design
with_body d m md os = set d m (record md { body = os })

-- the value is no result of the operation at position i
abbrev pub IsNotOf : ℕ → Ref → Type 0
IsNotOf i r = (k : ℕ) → r ≡ result i k → ⊥

-- ---- the edits

-- o at position i may become o': both are made of their operands and have results of the same types, the new operands
-- stand lower than the results, o' fits, and where all other operations hold both have the same words
pub record InPlace (md : Module) (i : ℕ) (o o' : Op) : Type 0 where
  pub there : slice_get md.body i ≡ Some o
  pub old_plain : is_anchor o ≡ false
  pub new_plain : is_anchor o' ≡ false
  pub same_types : (k : ℕ) → result_type o' k ≡ result_type o k
  pub fits : OpFits (type_in md.ports md.body) o'
  pub lower : (h : Ref → ℕ) → LocalHeight md.body h → (k : ℕ) (t : HwType) → result_type o k ≡ Some t → (r : Ref) → In r o'.operands → h r < h (result i k)
  pub words : (τ : Ref → Word) → HoldsBut md.body τ (λ j. j ≡ i) → Wide md.ports md.body τ → (k : ℕ) (t : HwType) → result_type o k ≡ Some t
      → result_word τ o k (Some t) ≡ result_word τ o' k (Some t)

-- o at position i, with one result of type t, may go, x standing for its result: x is another value of that type, stands
-- no higher than the result, and where all other operations hold it has the word of o
pub record Erased (md : Module) (i : ℕ) (o : Op) (t : HwType) (x : Ref) : Type 0 where
  pub there : slice_get md.body i ≡ Some o
  pub plain : is_anchor o ≡ false
  pub result_is : result_type o 0 ≡ Some t
  pub no_more : (k : ℕ) → result_type o (suc k) ≡ None
  pub stand_is : type_in md.ports md.body x ≡ Some t
  pub stand_stays : IsNotOf i x
  pub lower : (h : Ref → ℕ) → LocalHeight md.body h → h x ≤ h (result i 0)
  pub words : (τ : Ref → Word) → HoldsBut md.body τ (λ j. j ≡ i) → Wide md.ports md.body τ → result_word τ o 0 (Some t) ≡ τ x

-- o may be put in at position i: it is made of its operands, which are values of the body as it was, and fits them
pub record Inserted (md : Module) (i : ℕ) (o : Op) : Type 0 where
  pub within : i ≤ length md.body
  pub plain : is_anchor o ≡ false
  pub fits : OpFits (type_in md.ports md.body) o

-- o at position i may go: it is made of its operands and fits them, and no operation names its results
pub record IsUnused (md : Module) (i : ℕ) (o : Op) : Type 0 where
  pub there : slice_get md.body i ≡ Some o
  pub plain : is_anchor o ≡ false
  pub fits : OpFits (type_in md.ports md.body) o
  pub unnamed : (j : ℕ) (y : Op) (r : Ref) → slice_get md.body j ≡ Some y → In r y.operands → IsNotOf i r
