-- The passes of a pipeline, read from left to right (MLIR documentation, "Pass infrastructure": textual pass pipeline specification).
use Rattle.std.specs.Prelude.{◌≡◌, ℕ, zero, suc, ◌+◌, ◌-◌, cond, List, [], ◌∷◌, ◌++◌, length, Option, Some, None, Result, Ok, Err, ⊤}
use Rattle.pass_pipeline.specs.Tokens.{is_space, token_in}
use Rattle.pass_pipeline.specs.Steps.{step_over}
use Rattle.pass_pipeline.specs.declared.pass.Pass.{Pass}
use Rattle.pass_pipeline.specs.declared.step.Expected.{Expected}
use Rattle.pass_pipeline.specs.declared.step.Expected.TheVariants.{Root, Opening, FirstItem, Item, Separator, End}
use Rattle.pass_pipeline.specs.declared.step.Step.{Step}
use Rattle.pass_pipeline.specs.declared.pipeline.PipelineFail.{PipelineFail}
use Rattle.pass_pipeline.specs.declared.pipeline.PipelineFail.TheVariants.{BadText}
use Rattle.pass_pipeline.specs.declared.pipeline.PipelineError.{PipelineError}
use Rattle.pass_pipeline.specs.declared.pipeline.PipelineError.TheVariants.{Bad, NoMemory}

-- passes, and one more
abbrev pub added : List Pass → Option Pass → List Pass
added got None = got
added got (Some pass) = got ++ pass ∷ []

-- the text ends at this offset
abbrev pub ended : List Pass → Expected → ℕ → Result (List Pass) PipelineFail
ended got Root at = Err (BadText at)
ended got (Opening anchor) at = Err (BadText at)
ended got (FirstItem anchor) at = Err (BadText at)
ended got (Item anchor) at = Err (BadText at)
ended got (Separator anchor) at = Err (BadText at)
ended got End at = Ok got

-- what is read after a token
abbrev pub after : List Pass → Result Step PipelineFail → (List Pass → Expected → Result (List Pass) PipelineFail) → Result (List Pass) PipelineFail
after got (Err fail) later = Err fail
after got (Ok s) later = later (added got s.pass) s.next

-- the passes got before and those of the bytes from this offset on, of which the first `skipped` ones are still of the last token
unfoldable pub passes_after : List Pass → List Pass → Expected → ℕ → ℕ → List ℕ → Result (List Pass) PipelineFail
passes_after offered got expected skipped at [] = ended got expected at
passes_after offered got expected (suc skipped) at (b ∷ bs) = passes_after offered got expected skipped (at + 1) bs
passes_after offered got expected zero at (b ∷ bs) =
    cond (is_space b) (passes_after offered got expected zero (at + 1) bs)
    (after got (step_over offered expected at (token_in (b ∷ bs))) (λ more next. passes_after offered more next (length (token_in (b ∷ bs)) - 1) (at + 1) bs))

-- the passes of a text, where these are on offer
unfoldable pub passes : List Pass → List ℕ → Result (List Pass) PipelineFail
passes offered text = passes_after offered [] Root 0 0 text

-- an answer is what the text says, or out of memory
abbrev pub Reads : Result (List Pass) PipelineFail → Result (List Pass) PipelineError → Type 0
Reads said (Ok got) = said ≡ Ok got
Reads said (Err (Bad fail)) = said ≡ Err fail
Reads said (Err NoMemory) = ⊤
