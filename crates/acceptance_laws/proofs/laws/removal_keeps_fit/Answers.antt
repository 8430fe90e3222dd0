use Rattle.acceptance_laws.proofs.ModuleRemoved.{fit_without_module, lighter_without_module}
use Rattle.acceptance_laws.proofs.laws.removal_keeps_fit.Goals as goal

pub returns-clause-fit : goal.returns-clause-fit
returns-clause-fit c = fit_without_module

pub returns-clause-lighter : goal.returns-clause-lighter
returns-clause-lighter c = lighter_without_module
