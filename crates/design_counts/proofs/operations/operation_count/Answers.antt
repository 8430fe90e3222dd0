use Rattle.std.proofs.Common.{length, arith, ◌∙◌}
use Rattle.hw_model.specs.Design.{Module}
use Rattle.ir_store.specs.Bodies.{ops_of}
use Rattle.ir_store.specs.Designs.{design_of, modules_of, module_of, numbered_module}
use Rattle.ir_store.proofs.StoredModules.{stored_at}
use Rattle.design_counts.proofs.Totals.{designed, counted_none, counted_on, counted_all, all_positions}
use Rattle.design_counts.proofs.operations.operation_count.Goals as goal

pub loop-number-init : goal.loop-number-init
loop-number-init c = counted_none 18446744073709551616 (λ (m : Module). length m.body) (design_of c.args.design.now)

pub overflow_add-count : goal.overflow_add-count
overflow_add-count c = omega (arith, c.loop-number.invariant.few, c.op_count.type_inv, c.loop-number-test.true, c.module_count-number-end.type_inv)

pub loop-number-preserved : goal.loop-number-preserved
loop-number-preserved c =
    counted_on 18446744073709551616 (λ (m : Module). length m.body) (design_of c.args.design.now) c.loop-number.number c.loop-number.count c.op_count.result (numbered_module (module_of c.module.result.now))
    (stored_at (modules_of c.args.design.now) c.loop-number.number (module_of c.module.result.now) c.module.ensures)
    (c.op_count.ensures ∙ all_positions (ops_of c.module.result.now.body)) (omega (arith, c.op_count.type_inv)) c.loop-number.invariant

pub returns : goal.returns
returns c =
    counted_all 18446744073709551616 (λ (m : Module). length m.body) (design_of c.args.design.now) c.loop-number.number c.loop-number.count
    (omega (arith, designed (modules_of c.args.design.now), c.loop-number-test.false, c.module_count-number-end.ensures)) c.loop-number.invariant
