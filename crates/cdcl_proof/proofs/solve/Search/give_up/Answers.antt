use Rattle.std.proofs.Common.{◌≡◌, length, arith}
use Rattle.cdcl_proof.proofs.Keeping.{kept_exhausts}
use Rattle.cdcl_proof.proofs.solve.Search.give_up.Goals as goal

pub returns-clause-answers : goal.returns-clause-answers
returns-clause-answers c =
    let len = c.in_ok-into_steps.ensures.len in
    let spent = c.requires.spent in
    rw c.from_vec.ensures (kept_exhausts c.args.self.cnf.now c.in_ok-into_steps.field-0.items c.args.budget c.in_ok-into_steps.ensures.kept (omega (arith, len, spent)))

pub returns-clause-decided : goal.returns-clause-decided
returns-clause-decided c large =
    let len = c.in_ok-into_steps.ensures.len in
    let spent = c.requires.spent in
    let own = kept_exhausts c.args.self.cnf.now c.in_ok-into_steps.field-0.items c.args.budget c.in_ok-into_steps.ensures.kept (omega (arith, len, spent)) in
    let below = own.below in
    omega (arith, below, large)
