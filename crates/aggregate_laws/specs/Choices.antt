-- Elements of arrays that an index chooses: tests of the index, and multiplexers for each leaf (CIRCT, HW dialect:
-- `hw.array_get` as `hw-lower-aggregates` leaves it).
use Rattle.std.specs.Prelude.{ℕ, zero, suc, ◌+◌, ◌*◌, ◌-◌, ◌/◌, ◌%◌, List, [], ◌∷◌, ◌++◌, pos, length}
use Rattle.hw_model.specs.Types.{HwType}
use Rattle.hw_model.specs.Types.HwType.{int}
use Rattle.hw_model.specs.Kinds.Predicate.{eq}
use Rattle.hw_model.specs.Kinds.Kind.{icmp, mux, constant}
use Rattle.hw_model.specs.Design.{Ref, Op}
use Rattle.hw_model.specs.Design.Ref.{result}
use Rattle.aggregate_laws.specs.Leaves.{part}
use Rattle.aggregate_laws.specs.Rules.{Rule}
use Rattle.aggregate_laws.specs.OperationRules.{made_op, all_leaves, argument, for_each}

-- whether an index of w bits is each of n numbers, from `from` on: a constant and a comparison for each, beginning at a position
abbrev pub tests : Op → ℕ → Ref → ℕ → ℕ → ℕ → List Op
tests o w index start from zero = []
tests o w index start from (suc n) =
    made_op o (constant (pos from)) [] (int w ∷ []) [] (int w)
    ∷ made_op o (icmp eq) (index ∷ result start 0 ∷ []) (int w ∷ []) [] (int 1)
    ∷ tests o w index (start + 2) (suc from) n

-- where the test of a number stands
abbrev pub test_at : ℕ → ℕ → Ref
test_at start e = result (start + (2 * e + 1)) 0

-- of n values the one whose test is 1, and what stands at a position where none is: the multiplexers, the last value's first
abbrev pub choices : Op → HwType → (ℕ → Ref) → (ℕ → Ref) → ℕ → ℕ → List Op
choices o t test element before zero = []
choices o t test element before (suc n) =
    made_op o mux (test n ∷ element n ∷ result before 0 ∷ []) (t ∷ []) [] t ∷ choices o t test element (suc before) n

-- the same for each leaf, zero where no test is 1, beginning at a position; leaves are counted from a number on, and `sizes`
-- says of how many values
abbrev pub leaf_choices : Op → (ℕ → Ref) → (ℕ → ℕ → Ref) → (ℕ → ℕ) → ℕ → ℕ → List HwType → List Op
leaf_choices o test element sizes start l [] = []
leaf_choices o test element sizes start l (t ∷ ts) =
    made_op o (constant (pos 0)) [] (t ∷ []) [] t
    ∷ (choices o t test (element l) start (sizes l) ++ leaf_choices o test element sizes (start + suc (sizes l)) (suc l) ts)

-- how many operations k leaves have, from leaf l on
abbrev pub choice_count : (ℕ → ℕ) → ℕ → ℕ → ℕ
choice_count sizes l zero = 0
choice_count sizes l (suc k) = suc (sizes l) + choice_count sizes (suc l) k

-- where the last operation of the k-th leaf after leaf l stands
abbrev pub choice_end : (ℕ → ℕ) → ℕ → ℕ → ℕ
choice_end sizes l zero = sizes l
choice_end sizes l (suc k) = suc (sizes l) + choice_end sizes (suc l) k

-- an operation whose second operand, an index of w bits, chooses for each leaf among values; `element` gives these of the
-- first operand
abbrev pub choice_rule : Op → ℕ → ℕ → (ℕ → ℕ) → (List Ref → ℕ → ℕ → Ref) → Rule
choice_rule o n w sizes element = record {
  count = 2 * n + choice_count sizes 0 (length (all_leaves o));
  position = λ l. 2 * n + choice_end sizes 0 l;
  made = λ args start.
      tests o w (part (argument 1 args) 0) start 0 n ++ leaf_choices o (test_at start) (element (argument 0 args)) sizes (start + 2 * n) 0 (all_leaves o);
}

-- leaf l of element e of an array of n elements with m leaves each: the highest element is first
abbrev pub element_leaf : ℕ → ℕ → List Ref → ℕ → ℕ → Ref
element_leaf n m rs l e = part rs ((n - suc e) * m + l)

-- `hw.array_get` of n elements
abbrev pub get_rule : Op → ℕ → ℕ → Rule
get_rule o n w = choice_rule o n w (λ l. n) (element_leaf n (length (all_leaves o)))

-- of which of k elements, with m leaves each, a leaf is
abbrev pub element_of : ℕ → ℕ → ℕ → ℕ
element_of k m l = k - suc (l / m)

-- `hw.array_slice` of n elements to k, with m leaves each: for element j one of the elements from j on
abbrev pub slice_rule : Op → ℕ → ℕ → ℕ → ℕ → Rule
slice_rule o n k m w = choice_rule o n w (λ l. n - element_of k m l) (λ rs l e. element_leaf n m rs (l % m) (e + element_of k m l))

-- `hw.array_inject` to n elements with m leaves each: for each leaf the value's, where the index is that of its element
abbrev pub array_inject_rule : Op → ℕ → ℕ → ℕ → Rule
array_inject_rule o n m w = record {
  count = 2 * n + length (all_leaves o);
  position = λ l. 2 * n + l;
  made = λ args start.
      tests o w (part (argument 1 args) 0) start 0 n
      ++ for_each (λ l t. made_op o mux (test_at start (element_of n m l) ∷ part (argument 2 args) (l % m) ∷ part (argument 0 args) l ∷ []) (t ∷ []) [] t) 0 (all_leaves o);
}
