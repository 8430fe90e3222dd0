use Rattle.std.proofs.Common.{◌≤◌, length, sym, ◌∙◌, arith}
use Rattle.std.proofs.lemmas.List.{take_more, take_all}
use Rattle.ir_store.proofs.chained_values.ChainedValues.copy_of.Goals as goal

pub loop-value-init : goal.loop-value-init
loop-value-init c = (c.in_ok-copy.ensures.items, omega (arith, c.in_ok-copy.ensures.room, c.requires))

pub push-requires : goal.push-requires
push-requires c = omega (arith, c.loop-value.invariant.1, c.requires, c.loop-value-test.true)

pub loop-value-preserved : goal.loop-value-preserved
loop-value-preserved c = (
  rw (c.push.ensures.items, c.loop-value.invariant.0) (sym (take_more c.args.values.now c.loop-value.value-index _ c.loop-value-test.true)),
  omega (arith, c.push.ensures.room, c.loop-value.invariant.1),
)

pub returns-clause-items : goal.returns-clause-items
returns-clause-items c =
    let all : length c.args.values.now ≤ c.loop-value.value-index = omega (arith, c.loop-value-test.false) in
    c.loop-value.invariant.0 ∙ take_all c.loop-value.value-index c.args.values.now all

pub returns-clause-room : goal.returns-clause-room
returns-clause-room c = omega (arith, c.loop-value.invariant.1, c.loop-value.auto.value-index-end)
