use Rattle.op_checks.proofs.Owned.{own_index}
use Rattle.op_verifier.proofs.settled_types.own_type.Goals as goal

pub returns-in-Some : goal.returns-in-Some
returns-in-Some c = let h = c.in-Some.ensures.lookup in own_index c.args.results.now c.args.k c.in-Some.one.now h.3.0 h.1
