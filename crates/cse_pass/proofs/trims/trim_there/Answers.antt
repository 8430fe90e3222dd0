use Rattle.std.proofs.Common.{sym, subst}
use Rattle.body_edits.specs.Views.{body_ops, position_in}
use Rattle.cse_pass.specs.Trims.{TrimsInto}
use Rattle.cse_pass.proofs.TrimmedBefore.{no_trim, trim_into}
use Rattle.cse_pass.proofs.trims.trim_there.Goals as goal

pub trim_at-requires-clause-live : goal.trim_at-requires-clause-live
trim_at-requires-clause-live c = c.contains.ensures.0 c.if-contains.true

pub returns-then-contains-clause-trims : goal.returns-then-contains-clause-trims
returns-then-contains-clause-trims c =
    subst (TrimsInto (body_ops c.args.body.now)) (sym c.trim_at.ensures.ops) (trim_into (position_in c.args.body.now c.args.op) (body_ops c.args.body.now))

pub returns-else-contains-clause-trims : goal.returns-else-contains-clause-trims
returns-else-contains-clause-trims c = no_trim (body_ops c.args.body.now)
