-- Types are read after commas until there are enough.
use Rattle.std.proofs.Common.{◌+◌, ◌-◌, ap, ◌∙◌, arith}
use Rattle.ir_store.specs.OperationViews.{types_in}
use Rattle.mlir_syntax.specs.Reads.{on}
use Rattle.mlir_operations.specs.ElementText.{further_types}
use Rattle.mlir_operations.proofs.Joining.{following, further_at, further_fails, further_ends}
use Rattle.mlir_operations.proofs.type_elements.further_types.Goals as goal

pub returns-in-Err-clause-gives : goal.returns-in-Err-clause-gives
returns-in-Err-clause-gives c =
    further_fails c.args.op c.args.count c.loop.counter (types_in c.args.types.now) (types_in c.loop.types) c.args.reader.now c.loop.reader
    c.further_type.new.reader c.further_type.new.reader c.in-Err.fail c.loop-test.true c.loop.invariant.0 c.in-Err.ensures.gives

pub loop-preserved : goal.loop-preserved
loop-preserved c =
    let at = c.loop in
    let before = at.invariant.1 in
    let now = c.in-Ok.ensures.shorter in (
      at.invariant.0
          ∙ further_at c.args.op c.args.count at.counter (types_in at.types) at.reader c.loop-test.true
          ∙ ap (λ r. on r (λ more left. following more (further_types c.args.op (c.args.count - (at.counter + 1)) left))) c.in-Ok.ensures.gives,
      omega (arith, before, now),
    )

pub returns-clause-gives : goal.returns-clause-gives
returns-clause-gives c =
    let done = c.loop-test.false in
    c.loop.invariant.0 ∙ further_ends c.args.op c.args.count c.loop.counter (types_in c.loop.types) c.loop.reader (omega (arith, done))
