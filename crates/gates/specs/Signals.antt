-- Signals, and the bits that they carry under an assignment of bits to variables.
use Rattle.std.specs.Prelude.{ℕ, Bool, true, false, not, cond, ◌==◌, ◌&&◌, ◌-◌, nat_lt, List, slice_index_or}
use Rattle.std.proofs.Math.Bool.{beq}
use Rattle.gates.specs.declared.signal.Pin.{Pin}
use Rattle.gates.specs.declared.signal.Gate.{Gate}
use Rattle.gates.specs.declared.signal.Signal.{Signal}
use Rattle.gates.specs.declared.signal.Signal.TheVariants.{Fixed, Wire}

-- the same variable with the other sign
abbrev pub opposite : Pin → Pin
opposite p = record { variable = p.variable; positive = not p.positive }

-- the signal of the other bit
abbrev pub inverse : Signal → Signal
inverse (Fixed b) = Fixed (not b)
inverse (Wire p) = Wire (opposite p)

-- the pins have one variable and one sign
abbrev pub same_pin : Pin → Pin → Bool
same_pin a b = (a.variable == b.variable) && beq a.positive b.positive

-- the gates have the same pins
abbrev pub same_gate : Gate → Gate → Bool
same_gate g h = same_pin g.first h.first && same_pin g.second h.second

-- the gate of two pins
abbrev pub gate_of : Pin → Pin → Gate
gate_of a b = record { first = a; second = b }

-- the gate of two pins, the one of the smaller variable first
abbrev pub ordered_gate : Pin → Pin → Gate
ordered_gate a b = cond (nat_lt a.variable b.variable) (gate_of a b) (gate_of b a)

-- the variable itself
abbrev pub pin_of : ℕ → Pin
pin_of v = record { variable = v; positive = true }

-- ---- bits

-- the bit of a variable: the first of the list is variable 1's
abbrev pub variable_bit : List Bool → ℕ → Bool
variable_bit m v = slice_index_or m (v - 1) false

-- the bit that a pin carries
abbrev pub pin_bit : List Bool → Pin → Bool
pin_bit m p = beq (variable_bit m p.variable) p.positive

-- the bit that a signal carries
abbrev pub signal_bit : List Bool → Signal → Bool
signal_bit m (Fixed b) = b
signal_bit m (Wire p) = pin_bit m p

-- the bit that a gate gives
abbrev pub gate_bit : List Bool → Gate → Bool
gate_bit m g = pin_bit m g.first && pin_bit m g.second
