-- Changes of the operands of an operation of any number of operands (MLIR documentation, "Pattern Rewriting": update in place).
use Rattle.std.specs.Prelude.{◌≡◌, ℕ, ◌<◌, suc, Bool, List, [], ◌∷◌, ◌++◌, take, drop, remove, Option, Some, None, option_map, position, slice_get, option_and_then}
use Rattle.hw_model.specs.Kinds.{Kind}
use Rattle.hw_model.specs.Kinds.Kind.{variadic}
use Rattle.hw_model.specs.Design.{Ref, Op}
use Rattle.ir_store.specs.declared.body.Body.{Body}
use Rattle.ir_store.specs.Bodies.{ids_of}
use Rattle.ir_store.specs.Positions.{with_operands}
use Rattle.fold_laws.specs.Fewer.{Operands}
use Rattle.body_edits.specs.declared.operand_choices.Repeat.{Repeat}
use Rattle.body_edits.specs.declared.operands.OperandEdit.{OperandEdit}
use Rattle.body_edits.specs.declared.operands.OperandEdit.TheVariants.{Drop, DropBoth, MoveLast}
use Rattle.body_edits.specs.Views.{body_ops}

-- a list after an edit
abbrev pub operands_after : {A : Type 0} → OperandEdit → List A → List A
operands_after (Drop i) xs = remove xs i
operands_after (DropBoth i j) xs = remove (remove xs j) i
operands_after (MoveLast i) xs = remove xs i ++ take 1 (drop i xs)

-- the positions of an edit are those of a list of so many values, the first before the second
abbrev pub IsWithin : ℕ → OperandEdit → Type 0
IsWithin n (Drop i) = i < n
IsWithin n (DropBoth i j) = (i < j) × (j < n)
IsWithin n (MoveLast i) = i < n

-- the operands of the operation at a position
abbrev pub operands_there : Option Op → List Ref
operands_there None = []
operands_there (Some o) = o.operands

-- the operands that an operation of a kind has after a change
abbrev pub changed_operands : Operands → List Op → Kind → List Ref → Option (List Ref)
changed_operands change os (variadic v) rs = change os v rs
changed_operands change os _ rs = None

-- those of the operation at a position
abbrev pub changed_there : Operands → List Op → ℕ → Option (List Ref)
changed_there change os i = option_and_then (λ (o : Op). changed_operands change os o.kind o.operands) (slice_get os i)

-- a body after an edit of the operands of the operation at a position, which leaves the ids
pub record IsOperandEdit (edit : OperandEdit) (before after : Body) (i : ℕ) : Type 0 where
  pub ops : body_ops after ≡ with_operands i (operands_after edit) (body_ops before)
  pub ids : ids_of after ≡ ids_of before

-- ---- two equal values of a list

-- one position later
abbrev pub later : Repeat → Repeat
later r = record { first = suc r.first; second = suc r.second }

-- the first, or else the second
abbrev pub or_repeat : Option Repeat → Option Repeat → Option Repeat
or_repeat (Some r) other = Some r
or_repeat None other = other

-- the earliest value that stands again later, and where it first does
abbrev pub first_repeat : {A : Type 0} → (A → A → Bool) → List A → Option Repeat
first_repeat same [] = None
first_repeat same (x ∷ xs) = or_repeat (option_map (λ k. record { first = 0; second = suc k }) (position (same x) xs)) (option_map later (first_repeat same xs))
