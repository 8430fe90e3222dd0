-- Gates in order, and assignments that give each gate's variable the bit of the gate.
use Rattle.std.specs.Prelude.{◌≡◌, ℕ, suc, ◌<◌, ◌≤◌, Bool, List, [], ◌∷◌, ◌++◌}
use Rattle.gates.specs.declared.signal.Pin.{Pin}
use Rattle.gates.specs.declared.signal.Gate.{Gate}
use Rattle.gates.specs.declared.signal.Signal.{Signal}
use Rattle.gates.specs.declared.signal.Signal.TheVariants.{Fixed, Wire}
use Rattle.gates.specs.Signals.{variable_bit, gate_bit}

-- the pin is of one of the first n variables
abbrev pub IsPinWithin : ℕ → Pin → Type 0
IsPinWithin n p = (1 ≤ p.variable) × (p.variable ≤ n)

-- the signal is known, or of one of the first n variables
abbrev pub IsSignalWithin : ℕ → Signal → Type 0
IsSignalWithin n (Fixed b) = Unit {0}
IsSignalWithin n (Wire p) = IsPinWithin n p

-- the gate has pins of two of the first n variables, the smaller one first
pub record IsGateWithin (n : ℕ) (g : Gate) : Type 0 where
  pub first : IsPinWithin n g.first
  pub second : IsPinWithin n g.second
  pub ordered : g.first.variable < g.second.variable

-- each gate has pins of variables before its own; the first gate's variable is the one after n
abbrev pub AreInOrder : ℕ → List Gate → Type 0
AreInOrder n [] = Unit {0}
AreInOrder n (g ∷ gs) = IsGateWithin n g × AreInOrder (suc n) gs

-- under the assignment each gate's variable has the gate's bit
abbrev pub AreKept : List Bool → ℕ → List Gate → Type 0
AreKept m n [] = Unit {0}
AreKept m n (g ∷ gs) = (variable_bit m (suc n) ≡ gate_bit m g) × AreKept m (suc n) gs

-- the bits of the inputs and then of the gates, each from those before it
abbrev pub evaluated : List Bool → List Gate → List Bool
evaluated m [] = m
evaluated m (g ∷ gs) = evaluated (m ++ gate_bit m g ∷ []) gs
