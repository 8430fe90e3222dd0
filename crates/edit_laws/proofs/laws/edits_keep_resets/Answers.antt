use Rattle.edit_laws.proofs.ResetsKept.{resets_after, constant_kept}
use Rattle.edit_laws.proofs.laws.edits_keep_resets.Goals as goal

pub returns-clause-edits : goal.returns-clause-edits
returns-clause-edits c = resets_after

pub returns-clause-constants : goal.returns-clause-constants
returns-clause-constants c = constant_kept
