-- Fields as the code goes over them, and numbers that are told up to 2^32.
use Rattle.std.specs.Prelude.{ℕ, ◌+◌, ◌^◌, min, Bool, true, false, cond, ◌==◌, List, [], ◌∷◌, Option, Some, None}
use Rattle.aiger_laws.specs.declared.tree.Latch.{Latch}
use Rattle.aiger_laws.specs.declared.tree.AndGate.{AndGate}
use Rattle.aiger_laws.specs.Fields.{fields}
use Rattle.aiger_laws.specs.Rows.{Header, is_reset}

-- the number, or 2^32 where it is greater
abbrev pub saturated : ℕ → ℕ
saturated n = min n (2 ^ 32)

-- a latch of such numbers
abbrev pub saturated_latch : Latch → Latch
saturated_latch l = record { literal = saturated l.literal; next = saturated l.next }

-- a gate of such numbers
abbrev pub saturated_gate : AndGate → AndGate
saturated_gate g = record { literal = saturated g.literal; left = saturated g.left; right = saturated g.right }

-- a header of such numbers
abbrev pub saturated_header : Header → Header
saturated_header h =
    record { most = saturated h.most; inputs = saturated h.inputs; latches = saturated h.latches; outputs = saturated h.outputs; gates = saturated h.gates }

-- a header whose number of outputs is such a number
abbrev pub outputs_saturated : Header → Header
outputs_saturated h = record h { outputs = saturated h.outputs }

-- the fields behind a blank, if there is one
abbrev pub fields_left : Option (List ℕ) → List (List ℕ)
fields_left None = []
fields_left (Some bytes) = fields bytes

-- how many bytes stand before the first blank, or in all
abbrev pub field_length : List ℕ → ℕ
field_length [] = 0
field_length (b ∷ bs) = cond (b == 32) 0 (field_length bs + 1)

-- the fields behind the two literals of a latch: none, or how it begins
abbrev pub ends_latch : List ℕ → List (List ℕ) → Bool
ends_latch literal [] = true
ends_latch literal (c ∷ []) = is_reset literal c
ends_latch literal (c ∷ d ∷ ws) = false
