use Rattle.std.proofs.Common.{sym, arith}
use Rattle.operation_values.proofs.IntegerWords.{take_more, integers_more}
use Rattle.operation_values.proofs.integers.integer_words.Goals as goal

pub loop-operand-preserved : goal.loop-operand-preserved
loop-operand-preserved c =
    let item = c.operand-item.result in
    record {
      words = rw (c.in_ok-push.ensures.items, c.loop-operand.invariant.words) (rw (c.in_ok-bits_of.ensures.value, c.as_slice.ensures)
          (sym (take_more c.args.operands.now c.loop-operand.operand-index item (omega (arith, c.loop-operand-test.true)) c.operand-item.is)));
      integers = integers_more c.args.operands.now c.loop-operand.operand-index item (omega (arith, c.loop-operand-test.true)) c.operand-item.is
          c.loop-operand.invariant.integers (rw c.as_slice.ensures at c.in_ok-bits_of.ensures.suits);
    }
