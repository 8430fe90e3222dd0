use Rattle.acceptance_laws.proofs.Accepted.{fit_kept}
use Rattle.acceptance_laws.proofs.Edited.{fit_after, fit_modules}
use Rattle.acceptance_laws.proofs.laws.edits_keep_fit.Goals as goal

pub returns-clause-edit : goal.returns-clause-edit
returns-clause-edit c = fit_after

pub returns-clause-modules : goal.returns-clause-modules
returns-clause-modules c = fit_modules

pub returns-clause-design : goal.returns-clause-design
returns-clause-design c = fit_kept
