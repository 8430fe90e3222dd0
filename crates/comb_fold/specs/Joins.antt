-- Two constants among the operands of an operation, and one in their place (CIRCT, Comb dialect: canonicalization of its
-- operations).
use Rattle.std.specs.Prelude.{◌≡◌, ℕ, suc, ◌+◌, Bool, List, map, length, drop, set, slice_set, insert, remove, position, option_map, Option, None, Some, Contains, slice_get, option_and_then}
use Rattle.wiring.specs.Wiring.{In}
use Rattle.bits_core.specs.Word.{Word}
use Rattle.hw_model.specs.Types.{HwType}
use Rattle.hw_model.specs.Kinds.{Kind}
use Rattle.hw_model.specs.Kinds.Kind.{variadic}
use Rattle.hw_model.specs.Design.{Ref, Op, result_type}
use Rattle.hw_model.specs.Design.Ref.{result}
use Rattle.edit_laws.specs.Laws.{up_ref, insert_op}
use Rattle.ir_store.specs.declared.body.Body.{Body}
use Rattle.ir_store.specs.Bodies.{ids_of}
use Rattle.fold_laws.specs.Constants.{constant_at}
use Rattle.fold_laws.specs.ConstantOperands.{constants_among, joined_number}
use Rattle.fold_laws.specs.Numbers.{number_op}
use Rattle.comb_fold.specs.declared.joined.Two.{Two}
use Rattle.body_edits.specs.Views.{body_ops}

-- the positions of the first two elements that meet a test
abbrev pub first_two : {A : Type 0} → (A → Bool) → List A → Option Two
first_two test xs = option_and_then (λ i. option_map (λ k. record { first = i; second = i + 1 + k }) (position test (drop (i + 1) xs))) (position test xs)

-- those among the operands of an operation of any number of them
abbrev pub two_of_kind : {A : Type 0} → Kind → (A → Bool) → List A → Option Two
two_of_kind (variadic v) test xs = first_two test xs
two_of_kind _ test xs = None

-- the number of the value of such an operation on its first two constants
abbrev pub joined_of_kind : List Op → Kind → List Ref → Option ℕ
joined_of_kind os (variadic v) rs = joined_number v (constants_among os rs)
joined_of_kind os _ rs = None

-- the words of the constants among values have as many bits
pub record AreEven (os : List Op) (rs : List Ref) : Type 0 where
  pub even : (r q : Ref) (x y : Word) → In r rs → In q rs → constant_at os r ≡ Some x → constant_at os q ≡ Some y → length x ≡ length y

-- the operand of one position dropped, and a value in the place of that of another, in a body with an operation put in at
-- position i
abbrev pub joined_operands : ℕ → ℕ → ℕ → List Ref → List Ref
joined_operands i first second rs = remove (slice_set (map (up_ref i) rs) second (result i 0)) first

-- in the body after, an operation of a fresh id stands before the one at position i, and in the place of two of its operands
pub record IsPutIn (before after : Body) (i first second : ℕ) (c : Op) : Type 0 where
  pub ops : (o : Op) → slice_get (body_ops before) i ≡ Some o
      → body_ops after ≡ set (insert_op i c (body_ops before)) (suc i) (record o { operands = joined_operands i first second o.operands })
  pub fresh : ℕ
  pub is_fresh : Contains (ids_of before) fresh → ⊥
  pub ids : ids_of after ≡ insert (ids_of before) i fresh

-- it is the constant of a number, which has the type of the first result of that one and its place of the text
pub record HasJoined (before after : Body) (i : ℕ) (two : Two) (n : ℕ) : Type 0 where
  pub op : Op
  pub there : slice_get (body_ops before) i ≡ Some op
  pub type : HwType
  pub typed : result_type op 0 ≡ Some type
  pub put : IsPutIn before after i two.first two.second (number_op n type op.location)
