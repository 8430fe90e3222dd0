-- The gates of a flattened module: net by net, each after those that it needs.
use Rattle.std.specs.Prelude.{ℕ, zero, suc, ◌+◌, ◌==◌, ◌&&◌, Bool, true, false, cond, List, [], ◌∷◌, map}
use Rattle.gates.specs.declared.signal.Signal.{Signal}
use Rattle.gates.specs.declared.signal.Signal.TheVariants.{Wire}
use Rattle.gates.specs.Signals.{pin_of}
use Rattle.gates.specs.Build.{Build, done, and_then}
use Rattle.hw_model.specs.Types.{Name, width}
use Rattle.hw_model.specs.Design.{Ref, Design, same_name, find_module}
use Rattle.hw_model.specs.Design.Ref.{port, result, undefined}
use Rattle.hw_model.specs.Flat.{Net, net, Source, source}
use Rattle.hw_model.specs.Flat.Source.{nowhere, input, held, copy, op_result}
use Rattle.hw_model.specs.Meaning.{needs, outputs_of}
use Rattle.operation_gates.specs.OperationGateLists.{concatenation, gate_list_of}

-- the signals of w variables after the first `start`
abbrev pub variables : ℕ → ℕ → List Signal
variables start zero = []
variables start (suc w) = Wire (pin_of (suc start)) ∷ variables (suc start) w

-- ---- the signals of nets

abbrev pub same_ref : Ref → Ref → Bool
same_ref (port i) (port j) = i == j
same_ref (result i k) (result j l) = (i == j) && (k == l)
same_ref undefined undefined = true
same_ref _ _ = false

abbrev pub same_net : Net → Net → Bool
same_net a b = same_name a.path b.path && same_ref a.ref b.ref

-- the signals of nets with those of one more net
abbrev pub with_net : Net → List Signal → (Net → List Signal) → Net → List Signal
with_net n x signals a = cond (same_net a n) x (signals a)

-- ---- gate lists

abbrev pub first_word : List (List Signal) → List Signal
first_word [] = []
first_word (x ∷ xs) = x

-- the signals of a net by where its value comes from, over those of the nets that it needs; the content's variables
-- follow so many of the inputs
abbrev pub source_gate_list : ℕ → Source → List (List Signal) → Build (List Signal)
source_gate_list inputs nowhere xs = done []
source_gate_list inputs (input start w) xs = done (variables start w)
source_gate_list inputs (held start w) xs = done (variables (inputs + start) w)
source_gate_list inputs (copy n) xs = done (first_word xs)
source_gate_list inputs (op_result kind ts t k ns) xs = gate_list_of kind (width t) xs

-- a list of nets, one after another, each by what its source builds
unfoldable pub nets_by : (Source → List (List Signal) → Build (List Signal)) → Design → Name → List Net → (Net → List Signal) → Build (Net → List Signal)
nets_by gate_list d top [] signals = done signals
nets_by gate_list d top (n ∷ ns) signals =
    and_then (gate_list (source d top n) (map signals (needs d top n))) (λ x. nets_by gate_list d top ns (with_net n x signals))

-- a list of nets, the content being variables
unfoldable pub nets_gate_list : ℕ → Design → Name → List Net → (Net → List Signal) → Build (Net → List Signal)
nets_gate_list inputs d top ns signals = nets_by (source_gate_list inputs) d top ns signals

-- the outputs of a module, in port order
unfoldable pub module_gate_list : ℕ → Design → Name → List Net → Build (List Signal)
module_gate_list inputs d top ns =
    and_then (nets_gate_list inputs d top ns (λ n. [])) (λ signals. done (concatenation (map (λ r. signals (net [] r)) (outputs_of (find_module d top)))))
