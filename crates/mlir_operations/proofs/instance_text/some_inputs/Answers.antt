-- Operands are gathered until no comma stands after one.
use Rattle.std.proofs.Common.{map, Vec, Global}
use Rattle.mlir_operations.specs.ElementHeads.{joined_of}
use Rattle.mlir_operations.specs.declared.instance_text.Joined.{Joined}
use Rattle.mlir_syntax.proofs.Lists.{fails, ends, goes_on}
use Rattle.mlir_operations.proofs.Joining.{is_input}
use Rattle.mlir_operations.proofs.instance_text.some_inputs.Goals as goal

pub returns-in-Err-clause-gives : goal.returns-in-Err-clause-gives
returns-in-Err-clause-gives c =
    fails {C = Vec Joined Global} (λ joined. map joined_of joined.items) c.in-Err.fail c.input_text.new.reader c.input_text.new.reader (is_input c.args.op) c.loop-input.invariant c.in-Err.ensures.gives

pub returns-then-not-pass-clause-gives : goal.returns-then-not-pass-clause-gives
returns-then-not-pass-clause-gives c =
    ends c.in-Ok.input c.push.new.self.items c.input_text.new.reader c.pass.new.self c.pass.result (is_input c.args.op) c.loop-input.invariant
    c.in-Ok.ensures.gives c.in_ok-push-in-Ok.ensures.items c.pass.ensures.is c.pass.ensures.after c.if-not-pass.true

pub loop-input-preserved : goal.loop-input-preserved
loop-input-preserved c =
    goes_on c.in-Ok.input c.push.new.self.items c.input_text.new.reader c.pass.new.self c.pass.result (is_input c.args.op) c.loop-input.invariant
    c.in-Ok.ensures.gives c.in_ok-push-in-Ok.ensures.items c.pass.ensures.is c.pass.ensures.after c.if-not-pass.false c.in-Ok.ensures.shorter
    (c.pass.ensures.shorter c.if-not-pass.false)
