-- The miter of two modules with registers: whether their outputs, or what their registers hold after a step, differ for
-- some inputs and content (Brand, 1993; IEEE 1364-2005, 9.7.2).
use Rattle.std.specs.Prelude.{◌≡◌, ℕ, ◌+◌, ◌*◌, ◌≤◌, Bool, List, [], ◌∷◌, ◌++◌, length, Option, Some, None}
use Rattle.wiring.specs.Wiring.{In}
use Rattle.bits_core.specs.Word.{Word}
use Rattle.gates.specs.declared.signal.Signal.{Signal}
use Rattle.gates.specs.Build.{Build, and_then}
use Rattle.gates.specs.Order.{evaluated}
use Rattle.gate_words.specs.GateLists.{unlike}
use Rattle.hw_model.specs.Types.{Name, width}
use Rattle.hw_model.specs.Kinds.{Kind}
use Rattle.hw_model.specs.Kinds.Kind.{constant}
use Rattle.hw_model.specs.Design.{Ref, Design}
use Rattle.hw_model.specs.Flat.{Net, net, Source, Slot, Register, ResetBy, register_in, async_reset_in, registers, held_width, state}
use Rattle.hw_model.specs.Flat.Source.{input, op_result}
use Rattle.hw_model.specs.Meaning.{Settled, outputs, reset, map_slots, next_content}
use Rattle.net_gates.specs.NetPrices.{nets_price}
use Rattle.net_gates.specs.Miters.{Side, HasNetGateLists}
use Rattle.net_gates.specs.RegisterGateLists.{slot_source, stepped_gate_list}
use Rattle.net_gates.specs.RegisterPrices.{registers_price}

-- whether the outputs, or what the registers hold after a step, differ
unfoldable pub register_miter : ℕ → Side → Side → Build Signal
register_miter inputs a b =
    and_then (stepped_gate_list inputs a.design a.top a.nets) (λ x.
    and_then (stepped_gate_list inputs b.design b.top b.nets) (λ y.
    unlike x y))

-- ---- what it says

-- what a register holds once an asynchronous reset that is 1 has given it its value
abbrev pub loaded_in : (Net → Word) → Slot → Word → Word
loaded_in ρ s old = reset (async_reset_in s.op) (λ r. ρ (net s.path r)) old

-- the content then
abbrev pub loaded : Design → Name → (Net → Word) → Word → Word
loaded d top ρ content = map_slots (loaded_in ρ) (registers d top) content

-- a step of a module: its map before asynchronous resets, and after them
pub record Step (s : Side) (inputs content : Word) : Type 0 where
  pub before : Net → Word
  pub before_settled : Settled s.design s.top inputs content before
  pub after : Net → Word
  pub after_settled : Settled s.design s.top inputs (loaded s.design s.top before content) after

-- what its registers hold after it
abbrev pub next_of : (s : Side) (inputs content : Word) → Step s inputs content → Word
next_of s inputs content step = next_content (registers s.design s.top) step.after (loaded s.design s.top step.before content)

-- the modules give other outputs, or other content, for the inputs and content
abbrev pub DifferInStep : Side → Side → Word → Word → Type 0
DifferInStep a b inputs content =
    (x : Step a inputs content) × (y : Step b inputs content)
    × ((outputs a.design a.top x.after ≡ outputs b.design b.top y.after) × (next_of a inputs content x ≡ next_of b inputs content y) → ⊥)

-- ---- what it asks

-- the source is of inputs, among so many bits
abbrev pub IsInput : ℕ → Source → Type 0
IsInput inputs (input start w) = start + w ≤ inputs
IsInput inputs _ = ⊥

-- the kind is a constant's
abbrev pub IsConstantKind : Kind → Type 0
IsConstantKind (constant z) = Unit {0}
IsConstantKind _ = ⊥

-- the source is a constant of so many bits
abbrev pub IsConstantOf : ℕ → Source → Type 0
IsConstantOf w (op_result kind ts t k ns) = IsConstantKind kind × (width t ≡ w)
IsConstantOf w _ = ⊥

-- the operand of an enable
abbrev pub enable_refs : Option Ref → List Ref
enable_refs None = []
enable_refs (Some e) = e ∷ []

-- those of a reset
abbrev pub reset_refs : Option ResetBy → List Ref
reset_refs None = []
reset_refs (Some r) = r.signal ∷ r.value ∷ []

-- the operands of a register
abbrev pub parts_of : Register → List Ref
parts_of r = r.next ∷ r.clock ∷ enable_refs r.enable ++ reset_refs r.reset

-- a register's operands are among the nets, its data and its reset's value as wide as it is; an asynchronous reset is an
-- input, resets to a constant, and is the reset of the register
pub record SlotFits (inputs content : ℕ) (side : Side) (s : Slot) : Type 0 where
  pub among : (r : Register) → register_in s.op ≡ Some r → (x : Ref) → In x (parts_of r) → In (net s.path x) side.nets
  pub next_width : (r : Register) → register_in s.op ≡ Some r → (x q : Word) (ρ : Net → Word) → length x ≡ inputs → length q ≡ content
      → Settled side.design side.top x q ρ → length (ρ (net s.path r.next)) ≡ held_width s.op
  pub value_width : (r : Register) (v : ResetBy) → register_in s.op ≡ Some r → r.reset ≡ Some v → (x q : Word) (ρ : Net → Word) → length x ≡ inputs → length q ≡ content
      → Settled side.design side.top x q ρ → length (ρ (net s.path v.value)) ≡ held_width s.op
  pub signal : (v : ResetBy) → async_reset_in s.op ≡ Some v → IsInput inputs (slot_source side.design side.top s v.signal)
  pub value : (v : ResetBy) → async_reset_in s.op ≡ Some v → IsConstantOf (held_width s.op) (slot_source side.design side.top s v.value)
  pub same : (r : Register) (v : ResetBy) → register_in s.op ≡ Some r → async_reset_in s.op ≡ Some v → r.reset ≡ Some v

-- the module has its nets in order, with gate lists and registers that fit, and so many bits of content
pub record HasStepGateLists (inputs content : ℕ) (s : Side) : Type 0 where
  pub nets : HasNetGateLists inputs content s
  pub slots : (t : Slot) → In t (registers s.design s.top) → SlotFits inputs content s t
  pub size : state s.design s.top ≡ content

-- the modules have outputs of as many bits, whatever content each has
abbrev pub HaveSameOutputs : ℕ → ℕ → Side → Side → Type 0
HaveSameOutputs inputs content a b =
    (x p q : Word) (ρ σ : Net → Word) → length x ≡ inputs → length p ≡ content → length q ≡ content → Settled a.design a.top x p ρ → Settled b.design b.top x q σ
    → length (outputs a.design a.top ρ) ≡ length (outputs b.design b.top σ)

-- the inputs and content are of so many bits, the modules differ in a step on them, and the assignment is theirs and the
-- gates' bits
pub record IsStepDifference (inputs content : ℕ) (a b : Side) (m : List Bool) : Type 0 where
  pub input : Word
  pub held : Word
  pub input_width : length input ≡ inputs
  pub held_width : length held ≡ content
  pub differ : DifferInStep a b input held
  pub evaluation : m ≡ evaluated (input ++ held) (register_miter inputs a b (inputs + content) []).gates

-- how many gates a side may take, where its nets have these words
abbrev pub step_price : Side → (Net → Word) → ℕ
step_price s ρ = nets_price s.design s.top ρ s.nets + registers_price (registers s.design s.top)

-- how many gates the miter may take: both modules' and 4 for each bit of an output or of content
abbrev pub register_miter_price : Side → Side → (Net → Word) → (Net → Word) → ℕ
register_miter_price a b ρ σ = step_price a ρ + step_price b σ + 4 * (length (outputs a.design a.top ρ) + state a.design a.top)
