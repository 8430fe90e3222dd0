-- The values of nets, their needs followed to a depth, and the steps and runs of them.
use Rattle.std.specs.Prelude.{ℕ, zero, suc, ◌≤◌, List, [], ◌∷◌, map}
use Rattle.wiring.specs.Wiring.{IsHeight}
use Rattle.bits_core.specs.Word.{Word}
use Rattle.hw_model.specs.Types.{Name}
use Rattle.hw_model.specs.Design.{Design}
use Rattle.hw_model.specs.Flat.{Net, Source, source, registers}
use Rattle.hw_model.specs.Meaning.{needs_of, needs, value_of, next_content, risen_content, outputs}

-- the value of a net that comes from a source, `inner` being the map of the nets that it needs
abbrev pub value_from : Word → Word → (Net → Word) → Source → Word
value_from inputs content inner s = value_of inputs content s (map inner (needs_of s))

-- the value of a net, needs followed for fewer than `depth` steps; the empty word where none is left
abbrev pub value_within : Design → Name → Word → Word → ℕ → Net → Word
value_within d top inputs content zero n = []
value_within d top inputs content (suc depth) n =
    value_from inputs content (value_within d top inputs content depth) (source d top n)

-- the content after the first phase of a step, from the inputs of the step before and those of this step: a register whose
-- asynchronous reset rises holds its reset value
abbrev pub risen_within : Design → Name → Word → Word → Word → ℕ → Word
risen_within d top before inputs content depth =
    risen_content (registers d top) (value_within d top before content depth) (value_within d top inputs content depth) content

-- the values of the nets in a step from a content, after its first phase
abbrev pub values_within : Design → Name → Word → Word → Word → ℕ → Net → Word
values_within d top before inputs content depth = value_within d top inputs (risen_within d top before inputs content depth) depth

-- the content after a step from a content, under these values
abbrev pub content_within : Design → Name → Word → Word → Word → ℕ → Word
content_within d top before inputs content depth =
    next_content (registers d top) (values_within d top before inputs content depth) (risen_within d top before inputs content depth)

-- the outputs of a list of steps after one with the inputs `before`, under the values within a depth
abbrev pub run_after_within : Design → Name → ℕ → Word → Word → List Word → List Word
run_after_within d top depth before content [] = []
run_after_within d top depth before content (s ∷ steps) =
    outputs d top (values_within d top before s content depth)
    ∷ run_after_within d top depth s (content_within d top before s content depth) steps

-- the same from the beginning: before the first step all inputs are 0
abbrev pub run_within : Design → Name → ℕ → Word → List Word → List Word
run_within d top depth content steps = run_after_within d top depth [] content steps

-- the depth reaches all that nets need: the nets have heights, and none is above it
abbrev pub Suffices : Design → Name → ℕ → Type 0
Suffices d top depth = (height : Net → ℕ) × IsHeight (needs d top) height × ((n : Net) → height n ≤ depth)
