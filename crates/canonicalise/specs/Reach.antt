-- What patterns of the table of folds see of a body from one of its operations (MLIR documentation, "Pattern Rewriting").
use Rattle.std.specs.Prelude.{◌≡◌, ℕ, false, Bool, List, None, slice_get, Some, option_map}
use Rattle.wiring.specs.Wiring.{In}
use Rattle.hw_model.specs.Kinds.{Kind}
use Rattle.hw_model.specs.Design.{Ref, Op}
use Rattle.edit_laws.specs.Edit.{retarget}
use Rattle.ir_store.specs.Positions.{same_ref}
use Rattle.fold_laws.specs.Edits.{FoldPattern}
use Rattle.fold_laws.specs.Nested.{nested_at}
use Rattle.fold_laws.specs.Parts.{maker}
use Rattle.fold_laws.specs.Unused.{is_used}

-- under other names, values of a body are values of another one: equal where they were, and made by the same operations
pub record AreAlike (name : Ref → Ref) (os os' : List Op) (rs : List Ref) : Type 0 where
  pub apart : (x y : Ref) → In x rs → In y rs → same_ref (name x) (name y) ≡ same_ref x y
  pub made : (x : Ref) → In x rs → maker os' (name x) ≡ option_map (retarget name) (maker os x)

-- the operation at position i' of os' is that at position i of os under other names of its operands, which are alike; where none
-- of their operations could be taken in, none can; and where it is not used, it was not
pub record SeesNoMore (os : List Op) (i : ℕ) (os' : List Op) (i' : ℕ) : Type 0 where
  pub name : Ref → Ref
  pub op : Op
  pub there : slice_get os i ≡ Some op
  pub still : slice_get os' i' ≡ Some (retarget name op)
  pub alike : AreAlike name os os' op.operands
  pub inner : (test : Kind → Bool) (x : Ref) → In x op.operands → nested_at test os i x ≡ None → nested_at test os' i' (name x) ≡ None
  pub used : is_used i' os' ≡ false → is_used i os ≡ false

-- a pattern matches nowhere where it did not match at an operation that saw as much
abbrev pub StaysQuiet : FoldPattern → Type 0
StaysQuiet pattern = (os : List Op) (i : ℕ) (os' : List Op) (i' : ℕ) → SeesNoMore os i os' i' → pattern os i ≡ None → pattern os' i' ≡ None
