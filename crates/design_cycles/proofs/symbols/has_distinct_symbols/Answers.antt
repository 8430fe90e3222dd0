use Rattle.std.proofs.Common.{arith}
use Rattle.ir_store.specs.Designs.{modules_of}
use Rattle.design_cycles.proofs.Returning.{not_all_found, all_found}
use Rattle.design_cycles.proofs.symbols.has_distinct_symbols.Goals as goal

pub returns-then-not-is_found : goal.returns-then-not-is_found
returns-then-not-is_found c = not_all_found (modules_of c.args.design.now) c.loop-number.number c.is_found.result c.if-not-is_found.true c.is_found.ensures

pub returns : goal.returns
returns c = all_found (modules_of c.args.design.now) c.loop-number.number (omega (arith, c.loop-number-test.false, c.module_count-number-end.ensures)) c.loop-number.invariant
