-- Wires are taken out, their operands standing for their results (CIRCT, HW dialect: `hw.wire`).
use Rattle.std.specs.Prelude.{◌≡◌, ℕ, zero, suc, List, [], ◌∷◌, map, Some, slice_get, option_and_then}
use Rattle.hw_model.specs.Types.{HwType}
use Rattle.hw_model.specs.Kinds.Kind.{wire}
use Rattle.hw_model.specs.Design.{Ref, OpResult, Op, Module}
use Rattle.edit_laws.specs.Laws.{erase_op}
use Rattle.inline_laws.specs.Inline.{ref_or_undefined, wire_count, inline_op}

-- o at position i is a wire with the operand x and with one result, of type t
pub record IsWireAt (os : List Op) (i : ℕ) (o : Op) (t : HwType) (x : Ref) : Type 0 where
  pub there : slice_get os i ≡ Some o
  pub kind_is : o.kind ≡ wire
  pub operand_is : o.operands ≡ x ∷ []
  pub result_is : map (λ (r : OpResult). r.type) o.results ≡ t ∷ []

-- the first operand of the operation at position i, if there is one
abbrev pub operand_at : ℕ → List Op → Ref
operand_at i os = ref_or_undefined (option_and_then (λ (o : Op). slice_get o.operands 0) (slice_get os i))

-- n operations from position i on taken out, one after another, the first operand of each standing for its first result
abbrev pub unwire : ℕ → ℕ → List Op → List Op
unwire i zero os = os
unwire i (suc n) os = unwire i n (erase_op i (operand_at i os) os)

-- the body with the operations of the module c in the place of its instance o at position i, without wires
abbrev pub inline_without_wires : (Op → Op) → ℕ → Op → Module → List Op → List Op
inline_without_wires rename i o c os = unwire i (wire_count o) (inline_op rename i o c os)
