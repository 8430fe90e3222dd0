-- What the pipeline of generated designs is read as.
use Rattle.std.proofs.Common.{◌≡◌, ℕ, List, [], ◌∷◌, Ok, Err, refl, sym, subst, ◌∙◌, codes}
use Rattle.pass_pipeline.specs.Passes.{pass_name, runs_on}
use Rattle.pass_pipeline.specs.Pipelines.{passes, passes_after, Reads}
use Rattle.pass_pipeline.specs.Steps.{step_over, root, opening, first_item, item, pass_item, separator, closed}
use Rattle.pass_pipeline.specs.Tokens.{token_in}
use Rattle.pass_pipeline.specs.declared.pass.Pass.{Pass}
use Rattle.pass_pipeline.specs.declared.pass.Pass.TheVariants.{Canonicalize, Cse, HwFlattenModules}
use Rattle.pass_pipeline.specs.declared.pipeline.PipelineError.{PipelineError}
use Rattle.pass_pipeline.specs.declared.pipeline.PipelineError.TheVariants.{Bad}
use Rattle.pass_pipeline.specs.declared.pipeline.PipelineFail.{PipelineFail}
use Rattle.circt_top.specs.Generation.{generation_passes}

abbrev offered : List Pass
offered = Canonicalize ∷ Cse ∷ HwFlattenModules ∷ []

abbrev text : List ℕ
text = codes "builtin.module(canonicalize,cse,hw-flatten-modules,canonicalize,cse)"

pipeline_read : passes offered text ≡ Ok generation_passes
unfolding passes passes_after pass_name runs_on step_over root opening first_item item pass_item separator closed token_in
pipeline_read = refl

-- nothing else is read of it
pub read_so : (got : List Pass) → passes offered text ≡ Ok got → got ≡ generation_passes
read_so got h = let e : Ok generation_passes ≡ Ok got = sym pipeline_read ∙ h in cc

-- and it is not bad
pub not_bad : (fail : PipelineError) (bad : PipelineFail) → fail ≡ Bad bad → Reads (passes offered text) (Err fail) → ⊥
not_bad fail bad is h =
    let k : passes offered text ≡ Err bad = subst (λ f. Reads (passes offered text) (Err f)) is h in
    let e : Ok generation_passes ≡ Err bad = sym pipeline_read ∙ k in cc
