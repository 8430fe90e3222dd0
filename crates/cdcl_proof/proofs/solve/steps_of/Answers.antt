use Rattle.std.proofs.Common.{◌++◌, List, length, reverse, ap, ◌∙◌, sym}
use Rattle.resolution_proof.specs.declared.log.Step.{Step}
use Rattle.cdcl_proof.specs.Store.{steps_of}
use Rattle.cdcl_proof.proofs.Keeping.{steps_moved}
use Rattle.cdcl_proof.proofs.solve.steps_of.Goals as goal

pub loop-hints-preserved-in-Continue-branch-2 : goal.loop-hints-preserved-in-Continue-branch-2
loop-hints-preserved-in-Continue-branch-2 c =
    let i = c.loop-hints.invariant in
    let chains = c.in-Some.ensures.items in
    let clauses = c.in-Some-pop.ensures.items in
    let moved = steps_moved c.pop.new.self.items c.pop-in-Some.new.self.items c.in-Some.hints c.in-Some-pop.clause c.loop-hints.steps.items (ap length (sym chains) ∙ i.0 ∙ ap length clauses) in
    let before = rw (chains, clauses) at i.1 in
    (moved.0, before ∙ moved.1 ∙ ap (λ (xs : List Step). steps_of c.pop.new.self.items c.pop-in-Some.new.self.items ++ reverse xs) (sym c.in_ok-push.ensures.items))
