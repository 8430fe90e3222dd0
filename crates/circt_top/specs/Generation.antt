-- What `gen` does with a seed and a number of modules: a summary of the design that is generated from them, or Verilog that behaves as it.
use Rattle.std.specs.Prelude.{◌≡◌, ℕ, List, [], ◌∷◌}
use Rattle.generator.specs.Generated.{generated}
use Rattle.lowering_options.specs.declared.lowering.Lowering.TheVariants.{Plain}
use Rattle.pass_pipeline.specs.declared.pass.Pass.{Pass}
use Rattle.pass_pipeline.specs.declared.pass.Pass.TheVariants.{Canonicalize, Cse, HwFlattenModules}
use Rattle.circt_top.specs.Summary.{summary_text, summary_of}
use Rattle.circt_top.specs.Translation.{IsTranslated}

-- the passes that work on the design
abbrev pub generation_passes : List Pass
generation_passes = Canonicalize ∷ Cse ∷ HwFlattenModules ∷ Canonicalize ∷ Cse ∷ []

-- the text is the Verilog of what the passes make of the design, written plainly
abbrev pub IsGenerated : ℕ → ℕ → List ℕ → Type 0
IsGenerated seed count text = IsTranslated generation_passes Plain (generated seed count) text

-- the text is the summary of the design and of what the passes make of it, with the length of the Verilog of that
pub record IsSummary (seed count : ℕ) (text : List ℕ) : Type 0 where
  pub verilog : List ℕ
  pub translated : IsGenerated seed count verilog
  pub is : text ≡ summary_text (summary_of (generated seed count) translated.made verilog)
