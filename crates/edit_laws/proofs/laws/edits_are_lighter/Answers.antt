use Rattle.edit_laws.proofs.Weights.{weight_with_body, out_is_lighter, position_is_lighter}
use Rattle.edit_laws.proofs.laws.edits_are_lighter.Goals as goal

pub returns-clause-body : goal.returns-clause-body
returns-clause-body c = weight_with_body

pub returns-clause-out : goal.returns-clause-out
returns-clause-out c = out_is_lighter

pub returns-clause-position : goal.returns-clause-position
returns-clause-position c = position_is_lighter
