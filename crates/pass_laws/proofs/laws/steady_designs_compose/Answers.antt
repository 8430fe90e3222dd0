use Rattle.pass_laws.proofs.Steady.{steady_self, steady_then, steady_with_body, steady_is_after}
use Rattle.pass_laws.proofs.laws.steady_designs_compose.Goals as goal

pub returns-clause-itself : goal.returns-clause-itself
returns-clause-itself c = steady_self

pub returns-clause-composes : goal.returns-clause-composes
returns-clause-composes c = steady_then

pub returns-clause-edit : goal.returns-clause-edit
returns-clause-edit c = steady_with_body

pub returns-clause-after : goal.returns-clause-after
returns-clause-after c = steady_is_after
