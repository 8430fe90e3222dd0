-- Operands are gathered after those before until no comma stands after one.
use Rattle.std.proofs.Common.{[]}
use Rattle.mlir_operations.proofs.Operands.{is_operand}
use Rattle.mlir_operations.proofs.Joining.{onto_fails, onto_ends, onto_goes_on}
use Rattle.mlir_operations.proofs.element_text.some_operands.Goals as goal

pub returns-in-Err-clause-gives : goal.returns-in-Err-clause-gives
returns-in-Err-clause-gives c =
    onto_fails (λ (u : Unit {0}). []) c.in-Err.fail c.operand_text.new.reader c.operand_text.new.reader (is_operand c.args.op) c.loop-operand.invariant c.in-Err.ensures.gives

pub returns-then-not-pass-clause-gives : goal.returns-then-not-pass-clause-gives
returns-then-not-pass-clause-gives c =
    onto_ends c.in-Ok.operand c.push.new.self.items c.operand_text.new.reader c.pass.new.self c.pass.result (is_operand c.args.op) c.loop-operand.invariant
    c.in-Ok.ensures.gives c.in_ok-push-in-Ok.ensures.ok c.pass.ensures.is c.pass.ensures.after c.if-not-pass.true

pub loop-operand-preserved : goal.loop-operand-preserved
loop-operand-preserved c =
    onto_goes_on c.in-Ok.operand c.push.new.self.items c.operand_text.new.reader c.pass.new.self c.pass.result (is_operand c.args.op) c.loop-operand.invariant
    c.in-Ok.ensures.gives c.in_ok-push-in-Ok.ensures.ok c.pass.ensures.is c.pass.ensures.after c.if-not-pass.false c.in-Ok.ensures.shorter
    (c.pass.ensures.shorter c.if-not-pass.false)
