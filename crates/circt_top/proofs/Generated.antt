-- What is made of a generated design.
use Rattle.std.proofs.Common.{◌≡◌, ℕ, List, length, refl, sym, ap, subst, ◌∙◌}
use Rattle.hw_model.specs.Design.{Design}
use Rattle.design_counts.specs.Counts.{public_register_count}
use Rattle.generator.specs.Generated.{generated}
use Rattle.lowering_options.specs.declared.lowering.Lowering.TheVariants.{Plain}
use Rattle.pass_pipeline.specs.declared.pass.Pass.{Pass}
use Rattle.circt_top.specs.Generation.{generation_passes, IsGenerated, IsSummary}
use Rattle.circt_top.specs.Summary.{Counts, Summary, counts_of, summary_of, summary_text}
use Rattle.circt_top.specs.Translation.{IsTranslatedFrom, IsTranslated}

module _ (seed count : ℕ) (passes : List Pass) (d : Design) (are : passes ≡ generation_passes) (is : d ≡ generated seed count) where
  -- its translation is the answer
  pub verilog_generated : (text : List ℕ) → IsTranslated passes Plain d text → IsGenerated seed count text
  verilog_generated text h = subst (λ x. IsTranslated generation_passes Plain x text) is (subst (λ ps. IsTranslated ps Plain d text) are h)

  module _ (made : Design) where
    told : (text : List ℕ) → IsTranslatedFrom passes Plain d made text → IsTranslatedFrom generation_passes Plain (generated seed count) made text
    told text h = subst (λ x. IsTranslatedFrom generation_passes Plain x made text) is (subst (λ ps. IsTranslatedFrom ps Plain d made text) are h)

    -- its summary has these numbers
    pub summed : (verilog text : List ℕ) (counts : Counts) (registers bytes : ℕ) → IsTranslatedFrom passes Plain d made verilog
        → counts ≡ counts_of d → registers ≡ public_register_count made → bytes ≡ length verilog
        → text ≡ summary_text (record { counts = counts; registers = registers; verilog_bytes = bytes }) → IsSummary seed count text
    summed verilog text counts registers bytes h first second third lines =
        let t = told verilog h in
        let numbers : ◌≡◌ {A = Summary} (record { counts = counts; registers = registers; verilog_bytes = bytes }) (summary_of (generated seed count) t.translated.made verilog) =
        rw (first ∙ ap counts_of is, second ∙ ap public_register_count (sym t.made_is), third) refl in
        record { verilog = verilog; translated = t.translated; is = lines ∙ ap summary_text numbers }
