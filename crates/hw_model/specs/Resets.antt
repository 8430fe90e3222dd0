-- Asynchronous resets that come from outside a design: what such a reset is joined to is an input of the top module, and
-- what it resets to is a constant (CIRCT, Seq dialect: `seq.firreg` with `reset async`).
use Rattle.std.specs.Prelude.{◌≡◌, ℕ, Bool, true, false, cond, List, [], ◌∷◌, drop, Option, Some, None, slice_get}
use Rattle.wiring.specs.Wiring.{In}
use Rattle.bits_core.specs.Word.{Word, first}
use Rattle.hw_model.specs.Types.{Name}
use Rattle.hw_model.specs.Kinds.{Kind}
use Rattle.hw_model.specs.Kinds.Kind.{constant, aggregate_constant}
use Rattle.hw_model.specs.Design.{Ref, Port, Op, Module, Design, find_module, callee}
use Rattle.hw_model.specs.Design.Ref.{port, result}
use Rattle.hw_model.specs.Value.{is_high}
use Rattle.hw_model.specs.Flat.{Net, net, port_ref, Slot, ResetBy, async_reset_in, held_width, registers}
use Rattle.hw_model.specs.Machine.{RunAfter}
use Rattle.hw_model.specs.Meaning.{Settled, map_slots, risen_content, machine}

-- ---- where resets come from

-- whether a kind is a constant
abbrev pub is_constant : Kind → Bool
is_constant (constant z) = true
is_constant (aggregate_constant ls) = true
is_constant _ = false

-- the value is an input port of the module that has a mark
pub record IsMarkedInput (marked : Module → ℕ → Bool) (m : Module) (r : Ref) : Type 0 where
  pub number : ℕ
  pub is_port : r ≡ port number
  pub port_of : Port
  pub there : slice_get m.ports number ≡ Some port_of
  pub is_input : port_of.is_output ≡ false
  pub has_mark : marked m number ≡ true

-- the value is the result of a constant of the body
pub record IsConstantOf (os : List Op) (r : Ref) : Type 0 where
  pub position : ℕ
  pub number : ℕ
  pub is_result : r ≡ result position number
  pub op : Op
  pub there : slice_get os position ≡ Some op
  pub is_one : is_constant op.kind ≡ true

-- in each module the signal of an asynchronous reset is a marked input port, and its value a constant; what an instance
-- joins to a marked input port of its module is a marked input port of its own one
pub record ResetsFromPorts (d : Design) (marked : Module → ℕ → Bool) : Type 0 where
  pub signals : (s : Name) (m : Module) (o : Op) (r : ResetBy) → find_module d s ≡ Some m → In o m.body → async_reset_in o ≡ Some r
      → IsMarkedInput marked m r.signal
  pub values : (s : Name) (m : Module) (o : Op) (r : ResetBy) → find_module d s ≡ Some m → In o m.body → async_reset_in o ≡ Some r
      → IsConstantOf m.body r.value
  pub joined : (s : Name) (m : Module) (o : Op) (c : Module) (r : Ref) → find_module d s ≡ Some m → In o m.body → callee d o ≡ Some c
      → (given : IsMarkedInput marked c r) → (q : Ref) × (port_ref c.ports o.operands given.number ≡ Some q) × IsMarkedInput marked m q

-- ---- what follows for settled maps

-- under every settled map the net has the same bits of the top module's inputs
abbrev pub ComesFromInput : Design → Name → Net → Type 0
ComesFromInput d top n =
    (start : ℕ) × (w : ℕ) × ((inputs content : Word) (ρ : Net → Word) → Settled d top inputs content ρ → ρ n ≡ first w (drop start inputs))

-- under every settled map the net has the same word
abbrev pub IsFixed : Design → Name → Net → Type 0
IsFixed d top n = (v : Word) × ((inputs content : Word) (ρ : Net → Word) → Settled d top inputs content ρ → ρ n ≡ v)

-- ---- what follows for runs

-- a register with an asynchronous reset that is 1 under the map holds the reset value
abbrev pub IsReset : (Net → Word) → Slot → Word → Type 0
IsReset ρ s old =
    (r : ResetBy) → async_reset_in s.op ≡ Some r → is_high (ρ (net s.path r.signal)) ≡ true → old ≡ first (held_width s.op) (ρ (net s.path r.value))

-- each register that the content is of holds its reset value where its asynchronous reset is 1 under the map
abbrev pub AreReset : (Net → Word) → List Slot → Word → Type 0
AreReset ρ [] content = Unit {0}
AreReset ρ (s ∷ ss) content = IsReset ρ s (first (held_width s.op) content) × AreReset ρ ss (drop (held_width s.op) content)

-- what a register holds by the level of its asynchronous reset in place of its rise
abbrev pub level_value : Option ResetBy → (Ref → Word) → Word → Word
level_value None υ old = old
level_value (Some r) υ old = cond (is_high (υ r.signal)) (υ r.value) old

abbrev pub level_in : (Net → Word) → Slot → Word → Word
level_in υ s old = level_value (async_reset_in s.op) (λ r. υ (net s.path r)) old

-- in each step of a run the first phase gives what the levels of the resets give, and then registers whose reset is 1
-- hold their value
abbrev pub StepsAreReset : (d : Design) (top : Name) (before content : Word) (steps outputs : List Word) → RunAfter (machine d top) before content steps outputs → Type 0
StepsAreReset d top before content [] [] run = Unit {0}
StepsAreReset d top before content [] (o ∷ outputs) run = Unit {0}
StepsAreReset d top before content (s ∷ steps) [] run = Unit {0}
StepsAreReset d top before content (s ∷ steps) (o ∷ outputs) (after, step, rest) =
    (risen_content (registers d top) step.earlier step.first_map content ≡ map_slots (level_in step.first_map) (registers d top) content)
    × AreReset step.map_of (registers d top) (risen_content (registers d top) step.earlier step.first_map content)
    × StepsAreReset d top s after steps outputs rest
