use Rattle.acceptance_laws.proofs.ChangedInPlace.{fit_in_place, fit_reloaded}
use Rattle.acceptance_laws.proofs.PutIn.{fit_inserted}
use Rattle.acceptance_laws.proofs.TakenOut.{fit_erased, fit_without_dead}
use Rattle.acceptance_laws.proofs.laws.each_edit_keeps_fit.Goals as goal

pub returns-clause-position : goal.returns-clause-position
returns-clause-position c = fit_in_place

pub returns-clause-erased : goal.returns-clause-erased
returns-clause-erased c = fit_erased

pub returns-clause-dead : goal.returns-clause-dead
returns-clause-dead c = fit_without_dead

pub returns-clause-inserted : goal.returns-clause-inserted
returns-clause-inserted c = fit_inserted

pub returns-clause-register : goal.returns-clause-register
returns-clause-register c = fit_reloaded
