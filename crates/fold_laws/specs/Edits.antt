-- Edits of a body, as the patterns of the table of folds make them (MLIR documentation, "Pattern Rewriting": replace, erase,
-- update in place, create).
use Rattle.std.specs.Prelude.{ℕ, List, [], ◌∷◌, set, Option, option_map}
use Rattle.hw_model.specs.Design.{Ref, Op}
use Rattle.edit_laws.specs.Laws.{erase_op, insert_op}
use Rattle.fold_laws.specs.Fold.{Fold}

-- one edit, by the position of its operation
pub data Edit : Type 0 where
  changed : ℕ → Op → Edit
  replaced : ℕ → Op → Edit
  erased : ℕ → Ref → Edit
  put_in : ℕ → Op → Edit

-- a body after an edit: the operation itself has changed; a new operation stands in its place and takes its uses; it is
-- gone, a value standing for its first result; a new one stands before it, whose operands are values of the body before
abbrev pub edited : Edit → List Op → List Op
edited (changed i o) os = set os i o
edited (replaced i o) os = set os i o
edited (erased i x) os = erase_op i x os
edited (put_in i o) os = insert_op i o os

-- after edits, the first one first
abbrev pub edited_by : List Edit → List Op → List Op
edited_by [] os = os
edited_by (e ∷ es) os = edited_by es (edited e os)

-- a pattern of the table: the edits that it makes of a body at the operation of a position; None where it does not match
abbrev pub FoldPattern : Type 0
FoldPattern = List Op → ℕ → Option (List Edit)

-- the fold of a pattern
abbrev pub fold_by : FoldPattern → Fold
fold_by pattern md i = option_map (λ (es : List Edit). edited_by es md.body) (pattern md.body i)
