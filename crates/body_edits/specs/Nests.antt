-- Operations that code finds among those that made the operands of one (CIRCT, Comb dialect: canonicalization of its
-- operations).
use Rattle.std.specs.Prelude.{◌≡◌, ℕ, ◌+◌, Bool, List, [], set, remove, Option, Some, None, slice_get, option_and_then}
use Rattle.hw_model.specs.FamilyViews.{variadic_of}
use Rattle.hw_model.specs.Kinds.{Kind}
use Rattle.hw_model.specs.Kinds.Kind.{variadic}
use Rattle.hw_model.specs.Design.{Op}
use Rattle.hw_model.specs.Design.Ref.{result, undefined}
use Rattle.edit_laws.specs.Laws.{erase_op}
use Rattle.ir_store.specs.declared.body.Body.{Body}
use Rattle.ir_store.specs.declared.operation.Value.{Value}
use Rattle.ir_store.specs.Bodies.{ids_of}
use Rattle.ir_store.specs.BodyOps.{BodyOp}
use Rattle.fold_laws.specs.Nested.{Nested, use_count, splice, is_variadic, is_extract, is_concat, first_nested}
use Rattle.body_edits.specs.declared.nested.InnerKind.{InnerKind}
use Rattle.body_edits.specs.declared.nested.InnerKind.TheVariants.{Variadic, Extract, Concat}
use Rattle.body_edits.specs.declared.nested.NestedOp.{NestedOp}
use Rattle.body_edits.specs.Views.{body_ops, position_in, op_seen}

-- the test of kinds that one in code is
abbrev pub kind_test : InnerKind → Kind → Bool
kind_test (Variadic v) k = is_variadic (variadic_of v) k
kind_test Extract k = is_extract k
kind_test Concat k = is_concat k

-- an operation that is found, by positions
abbrev pub nested_seen : Body → NestedOp → Nested
nested_seen b n = record { number = n.number; position = position_in b n.id; inner = op_seen b n.op }

-- what stands so many operands later
abbrev pub later : ℕ → Nested → Nested
later k n = record n { number = k + n.number }

-- ---- an operation of any number of operands that takes in another one

-- the first of its kind that made an operand of an operation of a kind
abbrev pub same_nested : List Op → ℕ → Op → Kind → Option Nested
same_nested os i o (variadic v) = first_nested (is_variadic v) os i o.operands
same_nested os i o _ = None

-- that of the operation at a position
abbrev pub same_nested_at : List Op → ℕ → Option Nested
same_nested_at os i = option_and_then (λ (o : Op). same_nested os i o o.kind) (slice_get os i)

-- the operation at position j made an operand of the one at position i, and its results have no other use
pub record IsInner (os : List Op) (i number j : ℕ) : Type 0 where
  pub outer : Op
  pub there : slice_get os i ≡ Some outer
  pub inner : Op
  pub inside : slice_get os j ≡ Some inner
  pub named : slice_get outer.operands number ≡ Some (result j 0)
  pub other : j ≡ i → ⊥
  pub once : use_count j os ≡ 1

-- the one at position i has its operands in the place of that one, and it is gone
pub record IsTakenIn (before after : Body) (i number j : ℕ) : Type 0 where
  pub ops : (o c : Op) → slice_get (body_ops before) i ≡ Some o → slice_get (body_ops before) j ≡ Some c
      → body_ops after ≡ erase_op j undefined (set (body_ops before) i (record o { operands = splice number c.operands o.operands }))
  pub ids : ids_of after ≡ remove (ids_of before) j

-- the operands of an operation, where there is one
abbrev pub values_of : Option BodyOp → List Value
values_of None = []
values_of (Some o) = o.operands
