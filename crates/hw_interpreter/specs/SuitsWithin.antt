-- Where nets, steps and runs are computed within a depth: what is needed suits, and numbers are counted.
use Rattle.std.specs.Prelude.{◌≡◌, ℕ, zero, suc, ◌+◌, ◌^◌, ◌<◌, List, [], ◌∷◌, ◌++◌, map, length, All, Option, Some, None, option_to_list, ⊤}
use Rattle.wiring.specs.Wiring.{In}
use Rattle.bits_core.specs.Word.{Word}
use Rattle.hw_model.specs.Types.{Name}
use Rattle.hw_model.specs.Design.{Ref, Module, Design, find_module}
use Rattle.hw_model.specs.Flat.{Net, Path, Source, Slot, Register, ResetBy, net, source, instances, register_in, async_reset_in, registers, state}
use Rattle.hw_model.specs.Flat.Source.{nowhere, input, held, copy, op_result}
use Rattle.hw_model.specs.Meaning.{needs_of, Settled, risen_content, outputs_of}
use Rattle.operation_values.specs.Suits.{IsCounted, Suits}
use Rattle.hw_interpreter.specs.Depth.{value_within, risen_within, content_within}

-- the operation takes the words of the nets that it needs, bits of inputs and content end at a number that is counted,
-- and the instances on a path are numbered by 32 bits
abbrev pub SuitsSource : (Net → Word) → Source → Type 0
SuitsSource inner nowhere = ⊤
SuitsSource inner (input start w) = IsCounted (start + w)
SuitsSource inner (held start w) = IsCounted (start + w)
SuitsSource inner (copy n) = All (λ u. u < 2 ^ 32) n.path
SuitsSource inner (op_result kind types t k ns) = Suits kind types t (map inner ns)

-- so is the source, and each net that it needs is as `Suit` says
abbrev pub SuitsFrom : (Net → Word) → (Net → Type 0) → Source → Type 0
SuitsFrom inner Suit s = SuitsSource inner s × ((n : Net) → In n (needs_of s) → Suit n)

-- a net's source is so, and those of all that it needs, followed for fewer than `depth` steps
abbrev pub SuitsWithin : Design → Name → Word → Word → ℕ → Net → Type 0
SuitsWithin d top inputs content zero n = ⊤
SuitsWithin d top inputs content (suc depth) n =
    SuitsFrom (value_within d top inputs content depth) (SuitsWithin d top inputs content depth) (source d top n)

-- each net's source is so under a map
abbrev pub SuitsUnder : Design → Name → (Net → Word) → Type 0
SuitsUnder d top ρ = (n : Net) → SuitsSource ρ (source d top n)

-- under each settled map each net's source is as `SuitsSource` says
abbrev pub AlwaysSuits : Design → Name → Type 0
AlwaysSuits d top = (inputs content : Word) (ρ : Net → Word) → Settled d top inputs content ρ → SuitsUnder d top ρ

-- each module that a symbol finds has fewer than 2^32 instances
abbrev pub HasFewInstances : Design → Type 0
HasFewInstances d = (symbol : Name) (m : Module) → find_module d symbol ≡ Some m → length (instances m.body) < 2 ^ 32

-- the numbers of a design are counted: those of the instances of its modules, and the bits of the content of one
pub record IsCountedDesign (d : Design) (top : Name) : Type 0 where
  pub instances : HasFewInstances d
  pub content : IsCounted (state d top)

-- what resets a register, and to what
abbrev pub reset_refs : Option ResetBy → List Ref
reset_refs None = []
reset_refs (Some r) = r.signal ∷ r.value ∷ []

-- all that a register reads
abbrev pub register_refs : Option Register → List Ref
register_refs None = []
register_refs (Some r) = r.clock ∷ r.next ∷ (option_to_list r.enable ++ reset_refs r.reset)

-- these values of the module at the end of a path are computed within a depth
abbrev pub TakesRefs : Design → Name → Word → Word → ℕ → Path → List Ref → Type 0
TakesRefs d top inputs content depth p rs = (r : Ref) → In r rs → SuitsWithin d top inputs content depth (net p r)

-- the signal of what resets a register
abbrev pub signal_refs : Option ResetBy → List Ref
signal_refs None = []
signal_refs (Some r) = r.signal ∷ []

-- a step under inputs after one under the inputs `before`, from a content, is computed within a depth: what the
-- asynchronous resets, the outputs and the registers read is
pub record TakesStep (d : Design) (top : Name) (before inputs content : Word) (depth : ℕ) : Type 0 where
  pub numbers : IsCountedDesign d top
  pub earlier_nets : (s : Slot) → In s (registers d top) → TakesRefs d top before content depth s.path (signal_refs (async_reset_in s.op))
  pub reset_nets : (s : Slot) → In s (registers d top) → TakesRefs d top inputs content depth s.path (reset_refs (async_reset_in s.op))
  pub output_nets : TakesRefs d top inputs (risen_within d top before inputs content depth) depth [] (outputs_of (find_module d top))
  pub register_nets : (s : Slot) → In s (registers d top)
      → TakesRefs d top inputs (risen_within d top before inputs content depth) depth s.path (register_refs (register_in s.op))

-- each net's source suits under the three settled maps of a step
pub record SuitsStep (d : Design) (top : Name) (before inputs content : Word) : Type 0 where
  pub earlier : Net → Word
  pub first_map : Net → Word
  pub map_of : Net → Word
  pub settled_earlier : Settled d top before content earlier
  pub settled_first : Settled d top inputs content first_map
  pub settled : Settled d top inputs (risen_content (registers d top) earlier first_map content) map_of
  pub suits_earlier : SuitsUnder d top earlier
  pub suits_first : SuitsUnder d top first_map
  pub suits : SuitsUnder d top map_of

-- each step of a run after a step with the inputs `before` is computed within a depth
abbrev pub TakesRunAfter : Design → Name → ℕ → Word → Word → List Word → Type 0
TakesRunAfter d top depth before content [] = ⊤
TakesRunAfter d top depth before content (s ∷ steps) =
    TakesStep d top before s content depth × TakesRunAfter d top depth s (content_within d top before s content depth) steps

-- each step of a run from the beginning is computed within a depth
abbrev pub TakesRun : Design → Name → ℕ → Word → List Word → Type 0
TakesRun d top depth content steps = TakesRunAfter d top depth [] content steps
