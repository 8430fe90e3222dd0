-- Nets in an order in which each stands after those that it needs.
use Rattle.std.specs.Prelude.{ℕ, ◌+◌, ◌≤◌, List, [], ◌∷◌, map, length}
use Rattle.wiring.specs.Wiring.{In}
use Rattle.bits_core.specs.Word.{Word}
use Rattle.hw_model.specs.Types.{Name, width}
use Rattle.hw_model.specs.Design.{Ref, Design, find_module}
use Rattle.hw_model.specs.Flat.{Net, net, Source, source}
use Rattle.hw_model.specs.Flat.Source.{nowhere, input, held, copy, op_result}
use Rattle.hw_model.specs.Meaning.{needs, outputs_of}
use Rattle.operation_gates.specs.Operands.{IsShort, TakesWidths}

-- what each net of the list needs stands before it, or was seen
abbrev pub NeedsComeFirst : Design → Name → List Net → List Net → Type 0
NeedsComeFirst d top seen [] = Unit {0}
NeedsComeFirst d top seen (n ∷ ns) = ((b : Net) → In b (needs d top n) → In b seen) × NeedsComeFirst d top (n ∷ seen) ns

-- what is seen after the list
abbrev pub seen_after : List Net → List Net → List Net
seen_after seen [] = seen
seen_after seen (n ∷ ns) = seen_after (n ∷ seen) ns

-- the source has a gate list, where there are so many bits of inputs and of content, and nets have those words: it is within
-- them, or an operation of a plain kind with operands as wide as it takes
abbrev pub HasGateList : ℕ → ℕ → (Net → Word) → Source → Type 0
HasGateList inputs content word_at nowhere = Unit {0}
HasGateList inputs content word_at (input start w) = start + w ≤ inputs
HasGateList inputs content word_at (held start w) = start + w ≤ content
HasGateList inputs content word_at (copy n) = Unit {0}
HasGateList inputs content word_at (op_result kind ts t k ns) = TakesWidths kind (width t) (map length (map word_at ns)) × IsShort kind (width t)

-- each net of the list has a gate list
abbrev pub HaveGateLists : Design → Name → ℕ → ℕ → (Net → Word) → List Net → Type 0
HaveGateLists d top inputs content word_at [] = Unit {0}
HaveGateLists d top inputs content word_at (n ∷ ns) = HasGateList inputs content word_at (source d top n) × HaveGateLists d top inputs content word_at ns

-- each output of the module is among the nets
abbrev pub OutputsAreAmong : Design → Name → List Net → Type 0
OutputsAreAmong d top ns = (r : Ref) → In r (outputs_of (find_module d top)) → In (net [] r) ns
