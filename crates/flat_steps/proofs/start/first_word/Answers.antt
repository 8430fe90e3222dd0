use Rattle.std.proofs.Common.{ap, ◌∙◌}
use Rattle.bits_core.specs.Word.{zeros}
use Rattle.bits_core.proofs.Storage.{bits-zero}
use Rattle.flat_steps.proofs.start.first_word.Goals as goal

pub returns : goal.returns
returns c = c.truncate.ensures ∙ bits-zero c.in_ok-width.width ∙ ap zeros c.in_ok-width.ensures
