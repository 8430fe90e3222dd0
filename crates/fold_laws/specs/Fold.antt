-- Folds of a body: changes that keep what a design does and make the body smaller (MLIR documentation, "Operation
-- canonicalization"; CIRCT, Comb and HW dialects: folds of their operations).
use Rattle.std.specs.Prelude.{◌≡◌, ◌<◌, ◌≤◌, ◌⊎◌, ℕ, suc, ◌+◌, ◌*◌, Bool, cond, List, [], ◌∷◌, length, Option, Some, is_some, slice_get}
use Rattle.hw_model.specs.Types.{Name}
use Rattle.hw_model.specs.Kinds.{Kind}
use Rattle.hw_model.specs.Kinds.Kind.{variadic, constant}
use Rattle.hw_model.specs.Design.{Ref, Op, Module, Design}
use Rattle.hw_model.specs.Weight.{weight}
use Rattle.edit_laws.specs.Laws.{with_body}
use Rattle.acceptance_laws.specs.Keeps.{IsFit}
use Rattle.pass_laws.specs.Steady.{IsSteady}
use Rattle.fold_laws.specs.Constants.{constant_at}

-- a pattern of the table of folds: what it makes of a module's body at the operation of a position; None where it does not
-- match
abbrev pub Fold : Type 0
Fold = Module → ℕ → Option (List Op)

-- ---- the measure

-- 1 for a constant; 2 and 3 for each operand for any other operation
abbrev pub kind_measure : Kind → ℕ → ℕ
kind_measure (constant z) n = 1
kind_measure _ n = 2 + 3 * n

abbrev pub op_measure : Op → ℕ
op_measure o = kind_measure o.kind (length o.operands)

-- the measure of a body: the sum of its operations' measures
abbrev pub measure : List Op → ℕ
measure [] = 0
measure (o ∷ os) = op_measure o + measure os

-- ---- constants before other operands

-- whether a value is a constant
abbrev pub is_constant_in : List Op → Ref → Bool
is_constant_in os r = is_some (constant_at os r)

-- how many values do not meet a test
abbrev pub count_others : (Ref → Bool) → List Ref → ℕ
count_others test [] = 0
count_others test (r ∷ rs) = cond (test r) (count_others test rs) (suc (count_others test rs))

-- how many pairs there are of a value that meets a test before one that does not
abbrev pub pairs_before : (Ref → Bool) → List Ref → ℕ
pairs_before test [] = 0
pairs_before test (r ∷ rs) = cond (test r) (count_others test rs) 0 + pairs_before test rs

-- how many such pairs the operands of an operation of any number of them have
abbrev pub kind_misplaced : (Ref → Bool) → Kind → List Ref → ℕ
kind_misplaced test (variadic v) rs = pairs_before test rs
kind_misplaced test _ rs = 0

-- of operations
abbrev pub misplaced_by : (Ref → Bool) → List Op → ℕ
misplaced_by test [] = 0
misplaced_by test (o ∷ os) = kind_misplaced test o.kind o.operands + misplaced_by test os

-- how many pairs of a constant before another operand the operations of a body have
abbrev pub misplaced : List Op → ℕ
misplaced os = misplaced_by (is_constant_in os) os

-- a body is smaller: its measure is, or that is the same and fewer constants stand before other operands
abbrev pub IsSmaller : List Op → List Op → Type 0
IsSmaller os os' = (measure os < measure os') ⊎ ((measure os ≡ measure os') × (misplaced os < misplaced os'))

-- ---- the law

-- os in the place of the body of module k of d: a design that follows from d and is fit, its headers, registers and
-- instances being those of d; no module is heavier, and the body is smaller
pub record IsFold (d : Design) (k : ℕ) (md : Module) (os : List Op) : Type 0 where
  pub steady : IsSteady d (with_body d k md os)
  pub lighter : (s : Name) → weight (with_body d k md os) s ≤ weight d s
  pub smaller : IsSmaller os md.body

-- what a pattern makes of a body of a fit design is a fold of it
abbrev pub FoldLaw : Fold → Type 0
FoldLaw pattern = (d : Design) (k : ℕ) (md : Module) (i : ℕ) (os : List Op) → IsFit d → slice_get d k ≡ Some md → pattern md i ≡ Some os → IsFold d k md os
