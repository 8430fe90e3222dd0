-- The signals of the values of a flat body, by its operations alone: what the gate lists of its nets are, without paths.
use Rattle.std.specs.Prelude.{◌≡◌, ℕ, zero, suc, ◌+◌, false, cond, List, [], ◌∷◌, map, length, take, drop, replicate, Option, Some, None, slice_get, slice_set, slice_index_or}
use Rattle.gates.specs.declared.signal.Signal.{Signal}
use Rattle.gates.specs.Build.{Build, done, and_then}
use Rattle.gates.specs.Circuits.{Circuit, Runs}
use Rattle.hw_model.specs.Types.{width}
use Rattle.hw_model.specs.Design.{Ref, Port, OpResult, Op, is_register, is_output_op}
use Rattle.hw_model.specs.Design.Ref.{port, result, undefined}
use Rattle.hw_model.specs.Flat.{held_width}
use Rattle.operation_gates.specs.OperationGateLists.{gate_list_of}
use Rattle.operation_gates.specs.Operands.{TakesWidths}
use Rattle.net_gates.specs.NetGateLists.{variables}

-- ---- ports

-- the signals of a port, so many bits of inputs being before it; an output has none
abbrev pub port_word : ℕ → Port → List Signal
port_word start p = cond p.is_output [] (variables start (width p.type))

-- how many bits of inputs are before the next port
abbrev pub after_port : ℕ → Port → ℕ
after_port start p = cond p.is_output start (start + width p.type)

abbrev pub port_words : ℕ → List Port → List (List Signal)
port_words start [] = []
port_words start (p ∷ ps) = port_word start p ∷ port_words (after_port start p) ps

-- the signals of a port, where the inputs have these and so many of them are before it; an output has none
abbrev pub word_over : List Signal → ℕ → Port → List Signal
word_over ins start p = cond p.is_output [] (take (width p.type) (drop start ins))

-- those of ports, one after another
abbrev pub words_over : List Signal → ℕ → List Port → List (List Signal)
words_over ins start [] = []
words_over ins start (p ∷ ps) = word_over ins start p ∷ words_over ins (after_port start p) ps

-- ---- registers

-- how many bits of content an operation has
abbrev pub own_bits : Op → ℕ
own_bits o = cond (is_register o) (held_width o) 0

abbrev pub bits_in : Option Op → ℕ
bits_in None = 0
bits_in (Some o) = own_bits o

-- where the content of each operation begins
abbrev pub starts_from : ℕ → List Op → List ℕ
starts_from start [] = []
starts_from start (o ∷ os) = start ∷ starts_from (start + own_bits o) os

-- ---- values

abbrev pub first_only : ℕ → List Signal → List Signal
first_only zero x = x
first_only (suc k) x = []

-- the signals of a value, those of ports and of first results being told
abbrev pub word_at : List (List Signal) → List (List Signal) → Ref → List Signal
word_at ports results (port j) = slice_index_or ports j []
word_at ports results (result i k) = first_only k (slice_index_or results i [])
word_at ports results undefined = []

-- the signals of an operation's first result: a register has its content, from a bit on
abbrev pub op_gate_list : List Signal → (Ref → List Signal) → ℕ → Op → Build (List Signal)
op_gate_list content words start o =
    cond (is_register o) (done (take (held_width o) (drop start content)))
    (cond (is_output_op o) (done []) (gate_list_of o.kind (held_width o) (map words o.operands)))

abbrev pub gate_list_in : List Signal → (Ref → List Signal) → ℕ → Option Op → Build (List Signal)
gate_list_in content words start None = done []
gate_list_in content words start (Some o) = op_gate_list content words start o

-- the same of the operation at a position
abbrev pub gate_list_at : List Op → List Signal → (Ref → List Signal) → ℕ → Build (List Signal)
gate_list_at os content words i = gate_list_in content words (slice_index_or (starts_from 0 os) i 0) (slice_get os i)

-- the words of first results with that of one more operation, where it has a result
abbrev pub with_first : List OpResult → ℕ → List Signal → List (List Signal) → List (List Signal)
with_first [] i x results = results
with_first (r ∷ rs) i x results = slice_set results i x

abbrev pub with_word : Option Op → ℕ → List Signal → List (List Signal) → List (List Signal)
with_word None i x results = results
with_word (Some o) i x results = with_first o.results i x results

-- operation by operation
unfoldable pub results_by : List Op → List Signal → List (List Signal) → List ℕ → List (List Signal) → Build (List (List Signal))
results_by os content ports [] results = done results
results_by os content ports (i ∷ order) results =
    and_then (gate_list_at os content (word_at ports results) i) (λ x. results_by os content ports order (with_word (slice_get os i) i x results))

-- no words yet
abbrev pub no_words : ℕ → List (List Signal)
no_words n = replicate n []

-- ---- what the gate lists ask

-- the operation is there, and its operands are as wide as it takes
abbrev pub OpTakes : (Ref → List Signal) → Option Op → Type 0
OpTakes words None = ⊥
OpTakes words (Some o) = is_register o ≡ false → is_output_op o ≡ false → TakesWidths o.kind (held_width o) (map length (map words o.operands))

-- so is each operation, once those before it are built
abbrev pub GateListsFit : List Op → List Signal → List (List Signal) → List ℕ → Circuit → Type 0
GateListsFit os content ports order s =
    (i v : ℕ) (t : Circuit) (results : List (List Signal)) → slice_get order i ≡ Some v
    → Runs (results_by os content ports (take i order) (no_words (length os))) s t results → OpTakes (word_at ports results) (slice_get os v)
