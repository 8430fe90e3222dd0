use Rattle.std.proofs.Common.{ap, sym, ◌∙◌, slice_get}
use Rattle.std.specs.Option.{option_copied}
use Rattle.ir_store.specs.ShortLists.{short_items}
use Rattle.body_edits.proofs.ReadBodies.{op_seen_at}
use Rattle.cse_pass.specs.UnusedAggregates.{makes_aggregate}
use Rattle.cse_pass.proofs.UnusedAggregates.{first_has_parts, none_has_parts}
use Rattle.cse_pass.proofs.unused_aggregates.makes_aggregate.Goals as goal

pub returns-in-Some : goal.returns-in-Some
returns-in-Some c =
    first_has_parts (short_items c.op.result.results.now) c.in-Some.one.now c.is_scalar.result
    (ap (λ xs. slice_get xs 0) (sym c.as_slice.ensures) ∙ sym c.first.ensures.value ∙ ap option_copied c.in-Some.is) c.is_scalar.ensures
    ∙ sym (ap makes_aggregate (op_seen_at c.args.body.now c.args.op c.op.result c.op.ensures))

pub returns-in-None : goal.returns-in-None
returns-in-None c =
    none_has_parts (short_items c.op.result.results.now) (ap (λ xs. slice_get xs 0) (sym c.as_slice.ensures) ∙ sym c.first.ensures.value ∙ ap option_copied c.in-None.is)
    ∙ sym (ap makes_aggregate (op_seen_at c.args.body.now c.args.op c.op.result c.op.ensures))
