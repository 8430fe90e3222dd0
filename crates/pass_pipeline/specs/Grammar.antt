-- Whole pipelines, as the tokens of a text (MLIR documentation, "Pass infrastructure": textual pass pipeline specification).
use Rattle.std.specs.Prelude.{◌≡◌, ℕ, zero, suc, ◌-◌, true, cond, List, [], ◌∷◌, ◌++◌, length, Some, codes}
use Rattle.pass_pipeline.specs.Passes.{pass_name, runs_on, pass_named}
use Rattle.pass_pipeline.specs.Tokens.{is_space, token_in}
use Rattle.pass_pipeline.specs.declared.pass.Pass.{Pass}
use Rattle.pass_pipeline.specs.declared.pass.Anchor.TheVariants.{HwModule}

-- ---- texts

-- the tokens of bytes of which the first `skipped` ones are of a token before them: names and single bytes, without spaces
unfoldable pub tokens_after : ℕ → List ℕ → List (List ℕ)
tokens_after skipped [] = []
tokens_after (suc skipped) (b ∷ bs) = tokens_after skipped bs
tokens_after zero (b ∷ bs) =
    cond (is_space b) (tokens_after zero bs) (token_in (b ∷ bs) ∷ tokens_after (length (token_in (b ∷ bs)) - 1) bs)

-- the tokens of a text
abbrev pub tokens : List ℕ → List (List ℕ)
tokens text = tokens_after 0 text

-- ---- pipelines

-- an item of `builtin.module`: a pass on the design, or `hw.module` with passes on each module
pub data Item : Type 0 where
  on_design : Pass → Item
  on_modules : List Pass → Item

-- a comma and a pass, as often as wanted; passes with commas between
abbrev pub more_passes : List Pass → List (List ℕ)
more_passes [] = []
more_passes (p ∷ ps) = codes "," ∷ pass_name p ∷ more_passes ps

abbrev pub passes_spelled : List Pass → List (List ℕ)
passes_spelled [] = []
passes_spelled (p ∷ ps) = pass_name p ∷ more_passes ps

-- an item, and what stands after it
abbrev pub item_spelled : Item → List (List ℕ) → List (List ℕ)
item_spelled (on_design p) rest = pass_name p ∷ rest
item_spelled (on_modules ps) rest = codes "hw.module" ∷ codes "(" ∷ passes_spelled ps ++ codes ")" ∷ rest

-- a comma and an item, as often as wanted, and the end; items with commas between, and the end
abbrev pub more_items : List Item → List (List ℕ)
more_items [] = codes ")" ∷ []
more_items (i ∷ is) = codes "," ∷ item_spelled i (more_items is)

abbrev pub items_spelled : List Item → List (List ℕ)
items_spelled [] = codes ")" ∷ []
items_spelled (i ∷ is) = item_spelled i (more_items is)

-- a pipeline: `builtin.module` around its items
abbrev pub pipeline_spelled : List Item → List (List ℕ)
pipeline_spelled items = codes "builtin.module" ∷ codes "(" ∷ items_spelled items

-- the passes of items, in order
abbrev pub passes_of : Item → List Pass
passes_of (on_design p) = p ∷ []
passes_of (on_modules ps) = ps

abbrev pub passes_in : List Item → List Pass
passes_in [] = []
passes_in (i ∷ is) = passes_of i ++ passes_in is

-- each pass is on offer, and within `hw.module` runs on modules
abbrev pub IsOffered : List Pass → Pass → Type 0
IsOffered offered p = pass_named offered (pass_name p) ≡ Some p

abbrev pub RunOnModules : List Pass → List Pass → Type 0
RunOnModules offered [] = Unit {0}
RunOnModules offered (p ∷ ps) = (IsOffered offered p × (runs_on HwModule p ≡ true)) × RunOnModules offered ps

abbrev pub MayStand : List Pass → Item → Type 0
MayStand offered (on_design p) = IsOffered offered p
MayStand offered (on_modules ps) = RunOnModules offered ps

abbrev pub AllMayStand : List Pass → List Item → Type 0
AllMayStand offered [] = Unit {0}
AllMayStand offered (i ∷ is) = MayStand offered i × AllMayStand offered is
