-- Heights of a body's values, and edits that keep a body without cycles.
use Rattle.std.specs.Prelude.{◌≡◌, ℕ, suc, ◌<◌, ◌≤◌, false, List, map, Option, Some, None, slice_get}
use Rattle.wiring.specs.Wiring.{In, greatest}
use Rattle.hw_model.specs.Types.{HwType}
use Rattle.hw_model.specs.Design.{Ref, Op, result_type}
use Rattle.hw_model.specs.Design.Ref.{port, result, undefined}
use Rattle.edit_laws.specs.Edit.{is_anchor, Edit}

-- the heights of a body's values, as its own operations say them: a value that is made of operands is one higher than
-- the highest of them, and nothing is lower than what is undefined
pub record LocalHeight (os : List Op) (h : Ref → ℕ) : Type 0 where
  pub made : (j k : ℕ) (o : Op) (t : HwType) → slice_get os j ≡ Some o → is_anchor o ≡ false → result_type o k ≡ Some t
      → h (result j k) ≡ suc (greatest (map h o.operands))
  pub lowest : (r : Ref) → h undefined ≤ h r

-- the edit makes no cycle: from heights of the old body's values, `lift` makes numbers for the new one's, which are not
-- greater at what stands for a value, not less at ports and at what stayed, and fall along the operands of what is new;
-- `home` says of a position of the new body from where its operation came
pub record Falls (os os' : List Op) (e : Edit os os') : Type 0 where
  pub lift : (Ref → ℕ) → Ref → ℕ
  pub stand_is : (h : Ref → ℕ) → LocalHeight os h → (r : Ref) → lift h (e.stand r) ≤ h r
  pub port_is : (h : Ref → ℕ) → LocalHeight os h → (j : ℕ) → h (port j) ≤ lift h (port j)
  pub home : ℕ → Option ℕ
  pub home_is : (j' j : ℕ) → home j' ≡ Some j → e.position j ≡ Some j'
  pub kept_is : (h : Ref → ℕ) → LocalHeight os h → (j' j k : ℕ) → home j' ≡ Some j → h (result j k) ≤ lift h (result j' k)
  pub fresh_is : (j' : ℕ) (o : Op) → home j' ≡ None → slice_get os' j' ≡ Some o → is_anchor o ≡ false
  pub fresh_falls : (h : Ref → ℕ) → LocalHeight os h → (j' k : ℕ) (o : Op) (t : HwType) → home j' ≡ None → slice_get os' j' ≡ Some o
      → result_type o k ≡ Some t → (r : Ref) → In r o.operands → lift h r < lift h (result j' k)
