-- What `translate --export-verilog` does with a text: a Verilog text that behaves as the design that passes make of the one that it
-- says, where aggregates that somebody uses have become their leaves.
use Rattle.std.specs.Prelude.{◌≡◌, ℕ, List, [], ◌∷◌, ◌++◌}
use Rattle.hw_model.specs.Design.{Design}
use Rattle.export_verilog.specs.Behaviour.{BehavesAs}
use Rattle.lowering_options.specs.declared.lowering.Lowering.{Lowering}
use Rattle.export_verilog.specs.Layout.{verilog_text}
use Rattle.pass_pipeline.specs.declared.pass.Pass.{Pass}
use Rattle.pass_pipeline.specs.declared.pass.Pass.TheVariants.{HwLowerAggregates}
use Rattle.pass_manager.specs.Results.{IsExported}
use Rattle.circt_top.specs.Accepting.{Accepted}
use Rattle.circt_top.specs.Partners.{HasPartners}
use Rattle.circt_top.specs.SourceBehaviour.{BehavesAsSource}

-- the passes whose law an export keeps: those that are asked for, and then aggregates are lowered
abbrev pub exported_passes : List Pass → List Pass
exported_passes passes = passes ++ HwLowerAggregates ∷ []

-- the text behaves as the public modules of the design, and it is the Verilog of what those make of it: each public module of the
-- design has its partner there, and the text behaves as each public module of that, however expressions are written
pub record IsTranslated (passes : List Pass) (options : Lowering) (design : Design) (text : List ℕ) : Type 0 where
  pub behaves_as_source : BehavesAsSource (exported_passes passes) design text
  pub made : Design
  pub result : IsExported passes design made
  pub partners : HasPartners (exported_passes passes) design made
  pub behaves : BehavesAs text made
  -- the text is laid out as `verilog_text` says, its expressions written as the options say
  pub laid_out : text ≡ verilog_text options made

-- the text is the Verilog of what passes make of the design, and this is what they make
pub record IsTranslatedFrom (passes : List Pass) (options : Lowering) (design made : Design) (text : List ℕ) : Type 0 where
  pub translated : IsTranslated passes options design text
  pub made_is : translated.made ≡ made

-- the text is the Verilog of the input, as those make its design: the input is accepted
pub record IsTranslation (passes : List Pass) (options : Lowering) (bytes text : List ℕ) : Type 0 where
  pub design : Design
  pub accepted : Accepted bytes design
  pub translated : IsTranslated passes options design text
