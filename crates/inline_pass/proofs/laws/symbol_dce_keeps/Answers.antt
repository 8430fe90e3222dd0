use Rattle.inline_pass.proofs.DeadModulesGone.{dce_is_after}
use Rattle.inline_pass.proofs.laws.symbol_dce_keeps.Goals as goal

pub returns : goal.returns
returns c = dce_is_after
