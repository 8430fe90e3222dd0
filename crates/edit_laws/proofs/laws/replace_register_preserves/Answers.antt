use Rattle.edit_laws.proofs.ReloadFollows.{replace_register_preserves}
use Rattle.edit_laws.proofs.laws.replace_register_preserves.Goals as goal

pub returns : goal.returns
returns c = replace_register_preserves
