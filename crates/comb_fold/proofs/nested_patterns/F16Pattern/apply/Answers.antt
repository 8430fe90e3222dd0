use Rattle.body_edits.specs.Nests.{nested_seen}
use Rattle.body_edits.specs.Views.{body_ops, position_in}
use Rattle.comb_fold.proofs.NestedPattern.{same_inner, taken_folded_if}
use Rattle.comb_fold.proofs.nested_patterns.F16Pattern.apply.Goals as goal

pub take_in-requires-clause-inner : goal.take_in-requires-clause-inner
take_in-requires-clause-inner c =
    same_inner (body_ops c.args.body.now) (position_in c.args.body.now c.args.op) (nested_seen c.args.body.now c.in-Some.nested) c.in-Some.ensures

pub returns-clause-folded : goal.returns-clause-folded
returns-clause-folded c =
    taken_folded_if c.take_in.result c.args.body.now c.take_in.new.body (position_in c.args.body.now c.args.op) (nested_seen c.args.body.now c.in-Some.nested) c.in-Some.ensures c.take_in.ensures.taken
