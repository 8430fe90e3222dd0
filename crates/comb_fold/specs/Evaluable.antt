-- Operations of which all operands are constants (CIRCT, Comb dialect: folds of its operations).
use Rattle.std.specs.Prelude.{◌≡◌, ℕ, true, List, Option, Some, None}
use Rattle.bits_core.specs.Word.{Word}
use Rattle.hw_model.specs.Types.{HwType}
use Rattle.hw_model.specs.Types.HwType.{int}
use Rattle.hw_model.specs.Kinds.{Kind}
use Rattle.hw_model.specs.Design.{Ref, Op}
use Rattle.hw_model.specs.IntegerKinds.{TakesWords}
use Rattle.fold_laws.specs.Evaluated.{is_comb, constants_at}
use Rattle.body_edits.specs.declared.site.Site.{Site}
use Rattle.body_edits.specs.Readable.{IsWidth}
use Rattle.body_edits.specs.Sites.{ops_at, kind_at, refs_at, first_type_of}

-- the number of bits of an integer's type
abbrev pub bits_of_type : Option HwType → Option ℕ
bits_of_type (Some (int w)) = Some w
bits_of_type _ = None

-- an operation of the comb dialect, whose first result has that type: all its operands are constants, and with a result of
-- an integer's type it may have their words as operands
pub record IsEvaluable (os : List Op) (kind : Kind) (rs : List Ref) (type : Option HwType) : Type 0 where
  pub comb : is_comb kind ≡ true
  pub width : ℕ
  pub typed : type ≡ Some (int width)
  pub is_width : IsWidth width
  pub words : List Word
  pub constants : constants_at os rs ≡ Some words
  pub suits : TakesWords kind width words

-- so is the operation of a body that patterns read
abbrev pub IsEvaluableSite : Site → Type 0
IsEvaluableSite s = IsEvaluable (ops_at s) (kind_at s) (refs_at s) (first_type_of s)
