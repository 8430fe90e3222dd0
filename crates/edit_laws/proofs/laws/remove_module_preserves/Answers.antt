use Rattle.edit_laws.proofs.ModuleGone.{gone_valid, remove_module_preserves}
use Rattle.edit_laws.proofs.laws.remove_module_preserves.Goals as goal

pub returns-clause-valid : goal.returns-clause-valid
returns-clause-valid c = gone_valid

pub returns-clause-others : goal.returns-clause-others
returns-clause-others c = remove_module_preserves
