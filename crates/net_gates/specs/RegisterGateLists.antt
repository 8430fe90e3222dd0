-- The gates of a module with registers: its outputs, and what its registers hold after a step (CIRCT, Seq dialect:
-- `seq.compreg`, `seq.firreg`; IEEE 1364-2005, 9.7.2: events on clocks and on asynchronous resets).
use Rattle.std.specs.Prelude.{ℕ, Bool, true, false, List, [], ◌∷◌, ◌++◌, map, take, drop, Option, Some, None}
use Rattle.bits_core.specs.Word.{Word, bits_of_ℤ}
use Rattle.gates.specs.declared.signal.Signal.{Signal}
use Rattle.gates.specs.Signals.{inverse}
use Rattle.gates.specs.Build.{Build, done, and_then, and, or}
use Rattle.gate_words.specs.GateLists.{choose, top}
use Rattle.hw_model.specs.Types.{Name, width}
use Rattle.hw_model.specs.Kinds.{Kind}
use Rattle.hw_model.specs.Kinds.Kind.{constant}
use Rattle.hw_model.specs.Design.{Ref, Design, find_module}
use Rattle.hw_model.specs.Flat.{Net, net, Source, source, Slot, Register, ResetBy, register_in, async_reset_in, registers, held_width, state}
use Rattle.hw_model.specs.Flat.Source.{nowhere, input, held, copy, op_result}
use Rattle.hw_model.specs.Meaning.{outputs_of}
use Rattle.operation_gates.specs.OperationGateLists.{concatenation, gate_list_of}
use Rattle.net_gates.specs.NetGateLists.{variables, first_word, nets_by}

-- ---- nets over signals of inputs and of content

-- the signals of a source, where the inputs and the content have these
abbrev pub source_of_signals : List Signal → List Signal → Source → List (List Signal) → Build (List Signal)
source_of_signals ins content nowhere xs = done []
source_of_signals ins content (input start w) xs = done (take w (drop start ins))
source_of_signals ins content (held start w) xs = done (take w (drop start content))
source_of_signals ins content (copy n) xs = done (first_word xs)
source_of_signals ins content (op_result kind ts t k ns) xs = gate_list_of kind (width t) xs

-- ---- asynchronous resets: an input resets to a constant

-- the signals of a source that is of inputs, where these have those
abbrev pub input_signals : List Signal → Source → List Signal
input_signals ins (input start w) = take w (drop start ins)
input_signals ins _ = []

-- the word of a constant of so many bits
abbrev pub constant_word : ℕ → Kind → Word
constant_word w (constant z) = bits_of_ℤ w z
constant_word w _ = []

-- the word of a source that is a constant
abbrev pub source_constant : Source → Word
source_constant (op_result kind ts t k ns) = constant_word (width t) kind
source_constant _ = []

-- the bit where the condition is 1, else the signal
abbrev pub load_bit : Signal → Bool → Signal → Build Signal
load_bit c false s = and (inverse c) s
load_bit c true s = or c s

-- the word where the condition is 1, else the signals
unfoldable pub load : Signal → Word → List Signal → Build (List Signal)
load c (b ∷ w) (x ∷ xs) = and_then (load_bit c b x) (λ y. and_then (load c w xs) (λ ys. done (y ∷ ys)))
load c _ _ = done []

-- the value of a reset where its signal is 1, else the signals
abbrev pub load_gate_list : List Signal → (Ref → Source) → Option ResetBy → List Signal → Build (List Signal)
load_gate_list ins from None old = done old
load_gate_list ins from (Some r) old = load (top (input_signals ins (from r.signal))) (source_constant (from r.value)) old

-- ---- a step

-- the new signals where an enable is 1, else the old
abbrev pub enable_gate_list : Option Ref → (Ref → List Signal) → List Signal → List Signal → Build (List Signal)
enable_gate_list None signals old new = done new
enable_gate_list (Some e) signals old new = choose (top (signals e)) new old

-- the value of a synchronous reset where its signal is 1, else the new signals
abbrev pub reset_gate_list : Option ResetBy → (Ref → List Signal) → List Signal → Build (List Signal)
reset_gate_list None signals new = done new
reset_gate_list (Some r) signals new = choose (top (signals r.signal)) (signals r.value) new

-- an asynchronous reset where there is one, else a synchronous one
abbrev pub any_reset_gate_list : List Signal → (Ref → Source) → Option ResetBy → Option ResetBy → (Ref → List Signal) → List Signal → Build (List Signal)
any_reset_gate_list ins from None r signals new = reset_gate_list r signals new
any_reset_gate_list ins from (Some a) r signals new = load_gate_list ins from (Some a) new

-- what a register holds after a step in which its clock is 1, else what it held
abbrev pub next_gate_list : List Signal → (Ref → Source) → Option ResetBy → Option Register → (Ref → List Signal) → List Signal → Build (List Signal)
next_gate_list ins from a None signals old = done old
next_gate_list ins from a (Some r) signals old =
    and_then (enable_gate_list r.enable signals old (signals r.next)) (λ x.
    and_then (any_reset_gate_list ins from a r.reset signals x) (λ y.
    choose (top (signals r.clock)) y old))

-- ---- the content, slot by slot

-- what `each` makes of the signals of each slot, joined
unfoldable pub slots_gate_list : (Slot → List Signal → Build (List Signal)) → List Slot → List Signal → Build (List Signal)
slots_gate_list each [] content = done []
slots_gate_list each (s ∷ ss) content =
    and_then (each s (take (held_width s.op) content)) (λ x.
    and_then (slots_gate_list each ss (drop (held_width s.op) content)) (λ xs.
    done (x ++ xs)))

-- where the value of a slot's operand comes from
abbrev pub slot_source : Design → Name → Slot → Ref → Source
slot_source d top s r = source d top (net s.path r)

-- a slot after an asynchronous reset that is 1
abbrev pub loaded_slot : List Signal → Design → Name → Slot → List Signal → Build (List Signal)
loaded_slot ins d top s old = load_gate_list ins (slot_source d top s) (async_reset_in s.op) old

-- a slot after a step
abbrev pub next_slot : List Signal → Design → Name → (Net → List Signal) → Slot → List Signal → Build (List Signal)
next_slot ins d top signals s old = next_gate_list ins (slot_source d top s) (async_reset_in s.op) (register_in s.op) (λ r. signals (net s.path r)) old

-- ---- the module

-- the content after asynchronous resets that are 1, where the inputs and the content have these signals
abbrev pub loaded_over : List Signal → List Signal → Design → Name → Build (List Signal)
loaded_over ins content d top = slots_gate_list (loaded_slot ins d top) (registers d top) content

-- the outputs of a module, in port order, and what its registers hold after a step, where the inputs and the content have
-- these signals
unfoldable pub stepped_over : List Signal → List Signal → Design → Name → List Net → Build (List Signal)
stepped_over ins content d top ns =
    and_then (nets_by (source_of_signals ins content) d top ns (λ n. [])) (λ signals.
    and_then (slots_gate_list (next_slot ins d top signals) (registers d top) content) (λ next.
    done (concatenation (map (λ r. signals (net [] r)) (outputs_of (find_module d top))) ++ next)))

-- the content, whose variables follow those of the inputs, after asynchronous resets that are 1
abbrev pub loaded_gate_list : ℕ → Design → Name → Build (List Signal)
loaded_gate_list inputs d top = loaded_over (variables 0 inputs) (variables inputs (state d top)) d top

-- the outputs of a module, in port order, and what its registers hold after a step, asynchronous resets coming first: both
-- over the first variables
unfoldable pub stepped_gate_list : ℕ → Design → Name → List Net → Build (List Signal)
stepped_gate_list inputs d top ns = and_then (loaded_gate_list inputs d top) (λ content. stepped_over (variables 0 inputs) content d top ns)
