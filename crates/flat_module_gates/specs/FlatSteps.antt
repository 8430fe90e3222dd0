-- What the registers of a flat body hold, by its operations alone: once asynchronous resets have loaded them, and after a
-- step.
use Rattle.std.specs.Prelude.{◌≡◌, ℕ, zero, suc, ◌≤◌, Bool, true, false, List, [], ◌++◌, map, length, filter, Option, Some, None, slice_get}
use Rattle.wiring.specs.Lists.{total}
use Rattle.bits_core.specs.Word.{Word}
use Rattle.gates.specs.declared.signal.Signal.{Signal}
use Rattle.gates.specs.declared.signal.Signal.TheVariants.{Fixed, Wire}
use Rattle.gates.specs.Build.{Build, done, and_then}
use Rattle.gate_words.specs.GateLists.{choose, top}
use Rattle.hw_model.specs.Design.{Ref, Op, Port, is_register, output_refs}
use Rattle.hw_model.specs.Design.Ref.{port, result, undefined}
use Rattle.hw_model.specs.Flat.{Slot, Register, ResetBy, register_in, async_reset_in, held_width}
use Rattle.operation_gates.specs.OperationGateLists.{concatenation}
use Rattle.net_gates.specs.NetGateLists.{variables}
use Rattle.net_gates.specs.RegisterGateLists.{constant_word, load, enable_gate_list, reset_gate_list, slots_gate_list}
use Rattle.gates.specs.Circuits.{Circuit, Runs}
use Rattle.flat_module_gates.specs.FlatGateLists.{own_bits, port_words, word_at, no_words, results_by, GateListsFit}

-- ---- constants

-- the bit of a signal that is known; 0 of another
abbrev pub known_bit : Signal → Bool
known_bit (Fixed b) = b
known_bit (Wire p) = false

abbrev pub known_bits : List Signal → Word
known_bits xs = map known_bit xs

-- the bits of a constant; none of another operation
abbrev pub constant_in : Option Op → Word
constant_in None = []
constant_in (Some o) = constant_word (held_width o) o.kind

-- the bits of a value that is a constant's first result; none of another
abbrev pub constant_at : List Op → Ref → Word
constant_at os (port j) = []
constant_at os (result i zero) = constant_in (slice_get os i)
constant_at os (result i (suc k)) = []
constant_at os undefined = []

-- ---- one register

-- the value of a reset where its signal is 1, else the signals
abbrev pub load_in : List Op → (Ref → List Signal) → Option ResetBy → List Signal → Build (List Signal)
load_in os words None old = done old
load_in os words (Some r) old = load (top (words r.signal)) (constant_at os r.value) old

-- what a register holds once its asynchronous reset has loaded it
abbrev pub loaded_of : List Op → (Ref → List Signal) → Op → List Signal → Build (List Signal)
loaded_of os words o old = load_in os words (async_reset_in o) old

abbrev pub any_reset_in : List Op → (Ref → List Signal) → Option ResetBy → Option ResetBy → List Signal → Build (List Signal)
any_reset_in os words None r new = reset_gate_list r words new
any_reset_in os words (Some a) r new = load_in os words (Some a) new

abbrev pub next_in : List Op → (Ref → List Signal) → Option ResetBy → Option Register → List Signal → Build (List Signal)
next_in os words a None old = done old
next_in os words a (Some r) old =
    and_then (enable_gate_list r.enable words old (words r.next)) (λ x.
    and_then (any_reset_in os words a r.reset x) (λ y.
    choose (top (words r.clock)) y old))

-- what a register holds after a step
abbrev pub next_of : List Op → (Ref → List Signal) → Op → List Signal → Build (List Signal)
next_of os words o old = next_in os words (async_reset_in o) (register_in o) old

-- ---- all registers

abbrev pub slot : Op → Slot
slot o = record { path = []; op = o }

-- the registers of a body, in order
abbrev pub slots_of : List Op → List Slot
slots_of os = map slot (filter is_register os)

-- each register's part of the content
abbrev pub content_gate_list : (Op → List Signal → Build (List Signal)) → List Op → List Signal → Build (List Signal)
content_gate_list each os content = slots_gate_list (λ (s : Slot). each s.op) (slots_of os) content

-- how many bits they hold
abbrev pub content_width : List Op → ℕ
content_width os = total (map own_bits os)

-- ---- the module

-- the signals of the outputs, and of what the registers hold after a step, where ports have these words and the registers
-- this content
unfoldable pub flat_gate_list_over : List (List Signal) → List Signal → List Op → List ℕ → Build (List Signal)
flat_gate_list_over ports content os order =
    and_then (results_by os content ports order (no_words (length os))) (λ results.
    and_then (content_gate_list (next_of os (word_at ports results)) os content) (λ next.
    done (concatenation (map (word_at ports results) (output_refs os)) ++ next)))

-- the content, whose variables follow those of the inputs, after asynchronous resets that are 1
abbrev pub first_content : ℕ → List Port → List Op → Build (List Signal)
first_content inputs ps os = content_gate_list (loaded_of os (word_at (port_words 0 ps) [])) os (variables inputs (content_width os))

-- the signals of the outputs, and of what the registers hold after a step, over the first variables
unfoldable pub flat_gate_list : ℕ → List Port → List Op → List ℕ → Build (List Signal)
flat_gate_list inputs ps os order = and_then (first_content inputs ps os) (λ content. flat_gate_list_over (port_words 0 ps) content os order)

-- ---- what it asks

-- the data of a register and the values of its resets are as wide as it is
pub record RegisterTakes (os : List Op) (words : Ref → List Signal) (o : Op) : Type 0 where
  pub next : (r : Register) → register_in o ≡ Some r → length (words r.next) ≡ held_width o
  pub value : (r : Register) (v : ResetBy) → register_in o ≡ Some r → r.reset ≡ Some v → length (words v.value) ≡ held_width o
  pub loaded : (a : ResetBy) → async_reset_in o ≡ Some a → length (constant_at os a.value) ≡ held_width o

-- each register is so
abbrev pub RegistersTake : List Op → (Ref → List Signal) → Type 0
RegistersTake os words = (i : ℕ) (o : Op) → slice_get os i ≡ Some o → is_register o ≡ true → RegisterTakes os words o

-- what the building of a module asks, where ports have these words and the registers this content, from a circuit on:
-- operations and registers fit, once what is before them is built
pub record FlatFitsOver (ports : List (List Signal)) (content : List Signal) (os : List Op) (order : List ℕ) (s : Circuit) : Type 0 where
  pub gate_lists : GateListsFit os content ports order s
  pub registers : (t : Circuit) (results : List (List Signal)) → Runs (results_by os content ports order (no_words (length os))) s t results
      → RegistersTake os (word_at ports results)
  pub room : content_width os ≤ length content

-- over the first variables, once asynchronous resets have loaded the registers
pub record FlatFits (inputs : ℕ) (ps : List Port) (os : List Op) (order : List ℕ) (s : Circuit) : Type 0 where
  pub over : (t : Circuit) (content : List Signal) → Runs (first_content inputs ps os) s t content → FlatFitsOver (port_words 0 ps) content os order t
