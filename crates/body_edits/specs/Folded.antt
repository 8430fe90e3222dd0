-- What a pattern of the table of folds makes of a body in code at one of its operations (MLIR documentation, "Pattern Rewriting").
use Rattle.std.specs.Prelude.{◌≡◌, ◌<◌, ℕ, suc, Bool, true, false, List, [], ◌∷◌, length, set, insert, remove, Some, None, Contains}
use Rattle.ir_store.specs.declared.body.Body.{Body}
use Rattle.ir_store.specs.Bodies.{ids_of, ops_of}
use Rattle.fold_laws.specs.Edits.{Edit, FoldPattern, edited_by}
use Rattle.fold_laws.specs.Edits.Edit.{changed, replaced, erased, put_in}
use Rattle.body_edits.specs.Views.{body_ops}

-- ids after an edit, where a new operation has a fresh one
abbrev pub ids_edited : ℕ → Edit → List ℕ → List ℕ
ids_edited fresh (changed i o) ids = ids
ids_edited fresh (replaced i o) ids = set ids i fresh
ids_edited fresh (erased i x) ids = remove ids i
ids_edited fresh (put_in i o) ids = insert ids i fresh

-- after edits, the first one first
abbrev pub ids_edited_by : ℕ → List Edit → List ℕ → List ℕ
ids_edited_by fresh [] ids = ids
ids_edited_by fresh (e ∷ es) ids = ids_edited_by fresh es (ids_edited fresh e ids)

-- the edits of a pattern at position i of a body of n operations: the operation there changes, is replaced or is erased, and at most
-- one other is erased, or put in before it
abbrev pub IsPatternEdit : ℕ → ℕ → List Edit → Type 0
IsPatternEdit n i (changed j o ∷ []) = j ≡ i
IsPatternEdit n i (replaced j o ∷ []) = j ≡ i
IsPatternEdit n i (erased j x ∷ []) = j ≡ i
IsPatternEdit n i (changed j o ∷ erased k x ∷ []) = (j ≡ i) × (k ≡ i → ⊥) × (k < n)
IsPatternEdit n i (replaced j o ∷ erased k x ∷ []) = (j ≡ i) × (k ≡ i → ⊥) × (k < n)
IsPatternEdit n i (put_in j o ∷ changed k p ∷ []) = (j ≡ i) × (k ≡ suc i)
IsPatternEdit n i _ = ⊥

-- a pattern matches at position i of a body before, and the body after is as its edits make it
pub record IsFolded (pattern : FoldPattern) (before after : Body) (i : ℕ) : Type 0 where
  pub edits : List Edit
  pub matches : pattern (body_ops before) i ≡ Some edits
  pub form : IsPatternEdit (length (ids_of before)) i edits
  pub ops : body_ops after ≡ edited_by edits (body_ops before)
  pub fresh : ℕ
  pub is_fresh : Contains (ids_of before) fresh → ⊥
  pub ids : ids_of after ≡ ids_edited_by fresh edits (ids_of before)

-- a pattern is tried at a position: it matches and the body is folded, or it does not and the operations stay
abbrev pub Tries : FoldPattern → Body → Body → ℕ → Bool → Type 0
Tries pattern before after i true = IsFolded pattern before after i
Tries pattern before after i false = (pattern (body_ops before) i ≡ None) × (ops_of after ≡ ops_of before)
