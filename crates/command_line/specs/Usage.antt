-- What is said of words that are wrong.
use Rattle.std.specs.Prelude.{ℕ, List, Option, Some, None, codes}
use Rattle.pass_pipeline.specs.declared.pipeline.PipelineFail.TheVariants.{UnknownPass, WrongPlace, BadText}
use Rattle.command_line.specs.declared.usage.UsageKind.{UsageKind}
use Rattle.command_line.specs.declared.usage.UsageKind.TheVariants.{Words, TwoPipelines, NoTranslation, TwoTranslations, Pipeline, Lowering, StdinTwice}

unfoldable pub usage_text : UsageKind → List ℕ
usage_text Words = codes "bad arguments"
usage_text TwoPipelines = codes "passes given in two ways"
usage_text NoTranslation = codes "no translation named"
usage_text TwoTranslations = codes "two translations named"
usage_text (Pipeline (UnknownPass at)) = codes "unknown pass"
usage_text (Pipeline (WrongPlace at)) = codes "pass in the wrong place"
usage_text (Pipeline (BadText at)) = codes "bad pipeline text"
usage_text Lowering = codes "unknown lowering option"
usage_text StdinTwice = codes "standard input named twice"

-- where it is in the text of a pipeline
abbrev pub offset_of : UsageKind → Option ℕ
offset_of Words = None
offset_of TwoPipelines = None
offset_of NoTranslation = None
offset_of TwoTranslations = None
offset_of (Pipeline (UnknownPass at)) = Some at
offset_of (Pipeline (WrongPlace at)) = Some at
offset_of (Pipeline (BadText at)) = Some at
offset_of Lowering = None
offset_of StdinTwice = None
