use Rattle.std.proofs.Common.{◌≡◌, ap, ◌∙◌, map, take, arith}
use Rattle.std.proofs.lemmas.List.{take_all}
use Rattle.clause_learning.specs.Trail.{sign_of}
use Rattle.clause_learning.proofs.Entries.{values_agree}
use Rattle.clause_learning.proofs.trail.Trail.values.Goals as goal

pub returns-clause-agree : goal.returns-clause-agree
returns-clause-agree c =
    let whole : take c.loop-mark.mark-index c.deref-mark-items.result.now ≡ c.deref-mark-items.result.now = take_all c.loop-mark.mark-index c.deref-mark-items.result.now (omega arith) in
    let bits = c.loop-mark.invariant ∙ ap (map sign_of) (whole ∙ c.deref-mark-items.ensures.value) in
    rw (← c.self.view_is) (values_agree c.self.inside.marks.items c.self.inside.entries.items c.self.invariant.0 c.loop-mark.values.items bits)
