use Rattle.std.proofs.Common.{◌≡◌, ◌+◌, suc, sym, subst, map, drop, length, arith}
use Rattle.hw_model.specs.Flat.{instances}
use Rattle.hw_interpreter.specs.DesignViews.{op_of, module_of}
use Rattle.hw_interpreter.proofs.Counts.{from_position, count_full}
use Rattle.hw_interpreter.proofs.registers.+registers.Goals as goal

pub push_module-returns-in-Some-clause-refuses : goal.push_module-returns-in-Some-clause-refuses
push_module-returns-in-Some-clause-refuses t c is few =
    c.push_body.ensures.refuses is (rw c.as_slice.ensures.value (few c.args.symbol.now (module_of c.in-Some.own.now) (sym c.in-Some.ensures))) few

pub push_body-returns-in_err-number-clause-refuses : goal.push_body-returns-in_err-number-clause-refuses
push_body-returns-in_err-number-clause-refuses t c is few all =
    let item = c.operation-item.result in
    let here = from_position c.args.body.now c.loop-operation.operation-index item (omega (arith, c.loop-operation-test.true)) c.operation-item.is in
    count_full c.loop-operation.number (op_of item) (map op_of (drop (suc c.loop-operation.operation-index) c.args.body.now)) (length (instances (map op_of c.args.body.now)))
    c.in_err-number.ensures.refuses.1
    (subst (λ z. c.loop-operation.number + length (instances (map op_of z)) ≡ length (instances (map op_of c.args.body.now))) here c.loop-operation.invariant.count)
    c.in_err-number.ensures.refuses.0 few
