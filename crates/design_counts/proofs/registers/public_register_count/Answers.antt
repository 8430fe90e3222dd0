use Rattle.std.proofs.Common.{arith}
use Rattle.ir_store.specs.Designs.{design_of, modules_of, module_of, numbered_module}
use Rattle.ir_store.proofs.StoredModules.{stored_at}
use Rattle.design_counts.specs.Counts.{public_registers}
use Rattle.design_counts.proofs.Totals.{designed, counted_none, counted_on, counted_all}
use Rattle.design_counts.proofs.registers.public_register_count.Goals as goal

pub loop-number-init : goal.loop-number-init
loop-number-init c = counted_none 18446744073709551616 public_registers (design_of c.args.design.now)

pub overflow_add-count : goal.overflow_add-count
overflow_add-count c = omega (arith, c.loop-number.invariant.few, c.public_registers.type_inv, c.loop-number-test.true, c.module_count-number-end.type_inv)

pub loop-number-preserved : goal.loop-number-preserved
loop-number-preserved c =
    counted_on 18446744073709551616 public_registers (design_of c.args.design.now) c.loop-number.number c.loop-number.count c.public_registers.result (numbered_module (module_of c.module.result.now))
    (stored_at (modules_of c.args.design.now) c.loop-number.number (module_of c.module.result.now) c.module.ensures)
    c.public_registers.ensures (omega (arith, c.public_registers.type_inv)) c.loop-number.invariant

pub returns : goal.returns
returns c =
    counted_all 18446744073709551616 public_registers (design_of c.args.design.now) c.loop-number.number c.loop-number.count
    (omega (arith, designed (modules_of c.args.design.now), c.loop-number-test.false, c.module_count-number-end.ensures)) c.loop-number.invariant
