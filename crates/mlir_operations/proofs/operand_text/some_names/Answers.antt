-- Names are gathered until no comma stands after one.
use Rattle.std.proofs.Common.{map, Vec, Bor, Global, List, ℕ}
use Rattle.mlir_syntax.proofs.Lists.{fails, ends, goes_on}
use Rattle.mlir_operations.proofs.Operands.{is_value_name}
use Rattle.mlir_operations.proofs.operand_text.some_names.Goals as goal

pub returns-in-Err-clause-gives : goal.returns-in-Err-clause-gives
returns-in-Err-clause-gives c =
    fails {C = Vec (Bor (List ℕ)) Global} (λ names. map (λ (name : Bor (List ℕ)). name.now) names.items) c.in-Err.fail c.value_name.new.reader c.value_name.new.reader (is_value_name c.args.op) c.loop-name.invariant c.in-Err.ensures.gives

pub returns-then-not-pass-clause-gives : goal.returns-then-not-pass-clause-gives
returns-then-not-pass-clause-gives c =
    ends c.in-Ok.name c.push.new.self.items c.value_name.new.reader c.pass.new.self c.pass.result (is_value_name c.args.op) c.loop-name.invariant
    c.in-Ok.ensures.gives c.in_ok-push-in-Ok.ensures.items c.pass.ensures.is c.pass.ensures.after c.if-not-pass.true

pub loop-name-preserved : goal.loop-name-preserved
loop-name-preserved c =
    goes_on c.in-Ok.name c.push.new.self.items c.value_name.new.reader c.pass.new.self c.pass.result (is_value_name c.args.op) c.loop-name.invariant
    c.in-Ok.ensures.gives c.in_ok-push-in-Ok.ensures.items c.pass.ensures.is c.pass.ensures.after c.if-not-pass.false c.in-Ok.ensures.shorter
    (c.pass.ensures.shorter c.if-not-pass.false)
