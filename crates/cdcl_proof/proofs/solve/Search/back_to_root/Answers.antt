use Rattle.std.proofs.Common.{◌≤◌, length, ap, arith}
use Rattle.clause_learning.specs.Trail.{Path}
use Rattle.clause_learning.specs.Watching.{Watching}
use Rattle.clause_learning.proofs.Sound.{sound_take}
use Rattle.cdcl_proof.proofs.solve.Search.back_to_root.Goals as goal

pub returns-in_ok-insert_variables-in-Some-clause-searching : goal.returns-in_ok-insert_variables-in-Some-clause-searching
returns-in_ok-insert_variables-in-Some-clause-searching c =
    let e = c.in_ok-insert_variables-in-Some.ensures in
    let r = e.searching in
    let held = ap (λ (p : Path). length p.entries) c.trail.ensures in
    let same = ap (λ (w : Watching). length w.entries) e.watched in
    let last = c.in-Some.ensures.decision.0 in
    let first = c.decision_from-first.ensures.last in
    let short : c.decision_from-first.result ≤ length c.insert_variables.new.self.watched.entries = omega (arith, held, same, last, first) in
    let sound = sound_take c.insert_variables.new.self.watched.variables c.insert_variables.new.self.watched.clauses c.insert_variables.new.self.watched.entries c.decision_from-first.result short r.sound in
    rw c.back_to.ensures (record { variables = r.variables; logged = r.logged; sound = sound; seen = r.seen; order = r.order; phases = r.phases })

pub returns-in_ok-insert_variables-in-Some-clause-waiting : goal.returns-in_ok-insert_variables-in-Some-clause-waiting
returns-in_ok-insert_variables-in-Some-clause-waiting c = rw c.back_to.ensures c.in_ok-insert_variables-in-Some.ensures.waiting
