-- Operations that, with another one which made an operand of them and has no other use, become a new one (CIRCT, Comb dialect:
-- canonicalization of comb.extract and comb.concat).
use Rattle.std.specs.Prelude.{◌≡◌, ◌⊎◌, ℕ, ◌+◌, ◌≤◌, Bool, cond, ◌&&◌, List, [], ◌∷◌, set, remove, Option, Some, None, Contains, is_some, slice_get, option_and_then}
use Rattle.wiring.specs.Wiring.{In}
use Rattle.hw_model.specs.Kinds.{Kind}
use Rattle.hw_model.specs.Kinds.Kind.{extract}
use Rattle.hw_model.specs.Design.{Ref, Op, result_type}
use Rattle.hw_model.specs.Design.Ref.{undefined}
use Rattle.edit_laws.specs.Laws.{erase_op}
use Rattle.ir_store.specs.declared.body.Body.{Body}
use Rattle.ir_store.specs.declared.operation.NewOp.{NewOp}
use Rattle.ir_store.specs.Bodies.{ids_of}
use Rattle.fold_laws.specs.Edits.{FoldPattern}
use Rattle.fold_laws.specs.Edits.Edit.{replaced, erased}
use Rattle.fold_laws.specs.Nested.{Nested, uses_among, first_nested}
use Rattle.body_edits.specs.Nests.{IsInner}
use Rattle.body_edits.specs.Replaced.{new_seen}
use Rattle.body_edits.specs.Views.{body_ops}

-- the lowest bit that an extract takes; of another kind 0
abbrev pub low_of : Kind → ℕ
low_of (extract low) = low
low_of _ = 0

-- the first operation of a kind that made an operand of one of this kind, whose first result has a type
abbrev pub nested_of : (Kind → Bool) → List Op → ℕ → Op → Option Nested
nested_of test os i o = cond (test o.kind && is_some (result_type o 0)) (first_nested test os i o.operands) None

-- that of the operation at a position
abbrev pub nested_in : (Kind → Bool) → List Op → ℕ → Option Nested
nested_in test os i = option_and_then (nested_of test os i) (slice_get os i)

-- o may stand in the place of the operation at position i and of the one at position j, which made an operand of that one: its
-- operands are those of both, with fewer uses of the latter
pub record TakesBoth (os : List Op) (i j : ℕ) (o : Op) : Type 0 where
  pub number : ℕ
  pub is : IsInner os i number j
  pub within : (r : Ref) → In r o.operands → In r is.inner.operands ⊎ In r is.outer.operands
  pub uses : uses_among j o.operands + 1 ≤ uses_among j is.inner.operands + uses_among j is.outer.operands

-- a pattern has the new operation stand in the place of both
pub record IsJoin (pattern : FoldPattern) (b : Body) (i j : ℕ) (new : NewOp) : Type 0 where
  pub edits : pattern (body_ops b) i ≡ Some (replaced i (new_seen b new) ∷ erased j undefined ∷ [])
  pub takes : TakesBoth (body_ops b) i j (new_seen b new)

-- in the body after, another operation, of a fresh id, stands in the place of the one at position i, and the one at position j
-- is gone
pub record IsJoined (before after : Body) (i j : ℕ) (o : Op) : Type 0 where
  pub ops : body_ops after ≡ erase_op j undefined (set (body_ops before) i o)
  pub fresh : ℕ
  pub is_fresh : Contains (ids_of before) fresh → ⊥
  pub ids : ids_of after ≡ remove (set (ids_of before) i fresh) j
