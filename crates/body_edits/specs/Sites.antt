-- An operation of a body that patterns read, by positions (MLIR language reference: operations).
use Rattle.std.specs.Prelude.{ℕ, ◌≤◌, List, map, Option, All, slice_get, option_map}
use Rattle.hw_model.specs.Types.{HwType, width}
use Rattle.hw_model.specs.Kinds.{Kind}
use Rattle.hw_model.specs.KindViews.{kind_of}
use Rattle.hw_model.specs.Design.{Ref, OpResult, Op}
use Rattle.hw_model.specs.Value.{nth_type}
use Rattle.ir_store.specs.declared.operation.Value.{Value}
use Rattle.ir_store.specs.Bodies.{ids_of}
use Rattle.ir_store.specs.Live.{IsLive}
use Rattle.ir_store.specs.OperationViews.{types_in, results_in}
use Rattle.fold_laws.specs.Numbers.{Numbering}
use Rattle.fold_laws.specs.Standing.{Stand}
use Rattle.body_edits.specs.declared.site.Site.{Site}
use Rattle.body_edits.specs.Readable.{IsReadable}
use Rattle.body_edits.specs.Views.{body_ops, value_ref}

-- the operations of the body
abbrev pub ops_at : Site → List Op
ops_at s = body_ops s.body.now

-- a value of the body
abbrev pub ref_at : Site → Value → Ref
ref_at s v = value_ref s.body.now v

-- the kind of the operation, the types that it writes, its operands
abbrev pub kind_at : Site → Kind
kind_at s = kind_of s.op.kind.now

abbrev pub types_at : Site → List HwType
types_at s = types_in s.op.types.now

abbrev pub refs_at : Site → List Ref
refs_at s = map (value_ref s.body.now) s.op.operands.now

-- the body may be read, the operands of the operation are those of operations that are there, and the types that it writes
-- have at most 4096 bits
pub record IsReadableSite (s : Site) : Type 0 where
  pub readable : IsReadable s.body.now
  pub live : All (IsLive (ids_of s.body.now)) s.op.operands.now
  pub narrow : (n : ℕ) → width (nth_type (types_at s) n) ≤ 4096

-- the value that stands for the result of the operation
abbrev pub stand_of : Stand → Site → Option Ref
stand_of stand s = stand (ops_at s) (kind_at s) (types_at s) (refs_at s)

-- the number that the operation gives, where its first result has type t
abbrev pub number_of : Numbering → HwType → Site → Option ℕ
number_of numbering t s = numbering (ops_at s) (kind_at s) (types_at s) t (refs_at s)

-- the type of its first result
abbrev pub first_type_of : Site → Option HwType
first_type_of s = option_map (λ (r : OpResult). r.type) (slice_get (results_in s.op.results.now) 0)
