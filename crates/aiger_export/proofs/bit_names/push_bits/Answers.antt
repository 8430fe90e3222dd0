use Rattle.std.proofs.Common.{◌++◌}
use Rattle.aiger_export.specs.BitNames.{bit_names}
use Rattle.aiger_export.proofs.NameSteps.{bit_step}
use Rattle.aiger_export.proofs.bit_names.push_bits.Goals as goal

pub loop-left-preserved : goal.loop-left-preserved
loop-left-preserved c =
    bit_step c.loop-left.bits.items c.push.new.self.items (c.args.bits.now.items ++ bit_names c.args.name.now c.args.width) c.args.name.now _ c.loop-left.left
    c.loop-left-test.true c.in_ok-push.ensures.items c.in_ok-bit_name.ensures c.loop-left.invariant
