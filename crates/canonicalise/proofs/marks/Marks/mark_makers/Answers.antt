use Rattle.std.proofs.Common.{arith}
use Rattle.std.proofs.lemmas.Option.{slice_get_within}
use Rattle.ir_store.specs.declared.operation.Value.TheVariants.{Result}
use Rattle.canonicalise.proofs.Losing.{loses_then}
use Rattle.canonicalise.proofs.Marking.{values_step}
use Rattle.canonicalise.proofs.marks.Marks.mark_makers.Goals as goal

pub loop-value-preserved : goal.loop-value-preserved
loop-value-preserved c = record {
  marked = λ id settled.
      let one = c.mark_value.ensures.marked id settled in
      let before = c.loop-value.invariant.marked id one.0 in
      (before.0, values_step c.args.body.now c.args.values.now c.loop-value.value-index id _ before.1 one.1);
  loses = loses_then c.args.self.now c.loop-value.self c.mark_value.new.self c.loop-value.invariant.loses c.mark_value.ensures.loses;
}

pub returns-clause-marked : goal.returns-clause-marked
returns-clause-marked c = λ id settled.
    let last = c.loop-value.invariant.marked id settled in (
      last.0,
      λ k op n at. last.1 k op n (omega (arith, slice_get_within c.args.values.now k (Result op n) at, c.loop-value-test.false)) at,
    )
