use Rattle.std.proofs.Common.{sym, subst, ◌∙◌}
use Rattle.body_edits.specs.Views.{body_ops, position_in}
use Rattle.cse_pass.specs.UnusedAggregates.{AggregateTrims}
use Rattle.cse_pass.proofs.UnusedAggregates.{aggregate_trim_into, goes_shorter, stays_used}
use Rattle.cse_pass.proofs.unused_aggregates.trim_aggregate.Goals as goal

pub returns-then-makes_aggregate-clause-trims : goal.returns-then-makes_aggregate-clause-trims
returns-then-makes_aggregate-clause-trims c =
    subst (AggregateTrims (body_ops c.args.body.now)) (sym c.trim_at.ensures.ops)
    (aggregate_trim_into (position_in c.args.body.now c.args.op) (body_ops c.args.body.now) (sym c.makes_aggregate.ensures ∙ c.if-makes_aggregate.true))

pub returns-then-makes_aggregate-clause-fewer : goal.returns-then-makes_aggregate-clause-fewer
returns-then-makes_aggregate-clause-fewer c = λ is.
    goes_shorter (position_in c.args.body.now c.args.op) (body_ops c.args.body.now) (body_ops c.trim_at.new.body) c.trim_at.ensures.ops (sym is ∙ c.trim_at.ensures.erased)

pub returns-then-makes_aggregate-clause-none : goal.returns-then-makes_aggregate-clause-none
returns-then-makes_aggregate-clause-none c = λ is there makes. stays_used _ (sym is ∙ c.trim_at.ensures.erased)
