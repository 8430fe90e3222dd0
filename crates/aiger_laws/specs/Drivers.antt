-- What gives each variable of a tree its bit, as wiring: equations without an order (AIGER 1.9).
use Rattle.std.specs.Prelude.{◌≡◌, ℕ, ◌+◌, Bool, true, false, cond, ◌&&◌, ◌==◌, List, [], ◌∷◌, map, slice_get, slice_index_or, Option, Some, None, option_map}
use Rattle.wiring.specs.Wiring.{IsAcyclic, Settled}
use Rattle.aiger_laws.specs.declared.tree.Latch.{Latch}
use Rattle.aiger_laws.specs.declared.tree.AndGate.{AndGate}
use Rattle.aiger_laws.specs.Trees.{Aiger, variable, signed_bit}

-- what gives a variable its bit: nothing, the input, the latch or the gate at a place
pub data Driver : Type 0 where
  nothing : Driver
  input_bit held_bit gate_bit : ℕ → Driver

-- the first place of a literal of the variable
abbrev pub place_of : ℕ → List ℕ → Option ℕ
place_of v [] = None
place_of v (l ∷ ls) = cond (variable l == v) (Some 0) (option_map (λ k. k + 1) (place_of v ls))

-- the literals that the latches define
abbrev pub latch_literals : List Latch → List ℕ
latch_literals latches = map (λ (l : Latch). l.literal) latches

-- the literals that the gates define
abbrev pub gate_literals : List AndGate → List ℕ
gate_literals gates = map (λ (g : AndGate). g.literal) gates

-- the first of three places that is there
abbrev pub driver_by : Option ℕ → Option ℕ → Option ℕ → Driver
driver_by (Some k) latch gate = input_bit k
driver_by None (Some k) gate = held_bit k
driver_by None None (Some k) = gate_bit k
driver_by None None None = nothing

-- what gives the variable its bit
unfoldable pub driver : Aiger → ℕ → Driver
driver t v = driver_by (place_of v t.inputs) (place_of v (latch_literals t.latches)) (place_of v (gate_literals t.gates))

-- the operands of a gate, if it is there
abbrev pub operands : Option AndGate → List ℕ
operands None = []
operands (Some g) = g.left ∷ g.right ∷ []

-- the literals whose bits a driver joins
abbrev pub joined : List AndGate → Driver → List ℕ
joined gates nothing = []
joined gates (input_bit k) = []
joined gates (held_bit k) = []
joined gates (gate_bit k) = operands (slice_get gates k)

-- the variables that a variable needs
abbrev pub needs : Aiger → ℕ → List ℕ
needs t v = map variable (joined t.gates (driver t v))

-- all literals are 1, where their variables have the bits
abbrev pub all_ones : List ℕ → List Bool → Bool
all_ones [] bits = true
all_ones (l ∷ ls) [] = false
all_ones (l ∷ ls) (b ∷ bits) = signed_bit l b && all_ones ls bits

-- the bit that a driver gives, from the bits of the inputs, of the latches, and of the variables that are needed; nothing gives 0
abbrev pub driven : Aiger → List Bool → List Bool → List Bool → Driver → Bool
driven t inputs content bits nothing = false
driven t inputs content bits (input_bit k) = slice_index_or inputs k false
driven t inputs content bits (held_bit k) = slice_index_or content k false
driven t inputs content bits (gate_bit k) = all_ones (joined t.gates (gate_bit k)) bits

-- the bit of a variable, from the bits of those that it needs
abbrev pub bit_of : Aiger → List Bool → List Bool → ℕ → List Bool → Bool
bit_of t inputs content v bits = driven t inputs content bits (driver t v)

-- each variable has the bit that it is given
abbrev pub IsSettled : Aiger → List Bool → List Bool → (ℕ → Bool) → Type 0
IsSettled t inputs content σ = Settled (needs t) (bit_of t inputs content) σ

-- no variable needs itself
abbrev pub HasNoCycle : Aiger → Type 0
HasNoCycle t = IsAcyclic (needs t)

-- each gate gives its variable its bit
abbrev pub GatesDrive : Aiger → Type 0
GatesDrive t = (k : ℕ) (g : AndGate) → slice_get t.gates k ≡ Some g → driver t (variable g.literal) ≡ gate_bit k
