use Rattle.std.proofs.Common.{◌∙◌}
use Rattle.cdcl_proof.proofs.solve.Search.refute.Goals as goal

pub returns-clause-searching : goal.returns-clause-searching
returns-clause-searching c =
    let s = c.requires.searching in
    record { variables = s.variables; logged = s.logged; sound = s.sound; seen = c.in_ok-step.ensures.len ∙ s.seen; order = s.order; phases = s.phases }
