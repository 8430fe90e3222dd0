use Rattle.miter_blast.proofs.OutputBits.{outputs_more}
use Rattle.miter_blast.proofs.early.output_bits.Goals as goal

pub loop-port-preserved : goal.loop-port-preserved
loop-port-preserved c =
    outputs_more c.deref-port-items.result.now c.loop-port.port-index c.port-item.result c.loop-port.bits c.bits_of_output.result c.saturating_add-bits.result 18446744073709551615
    c.loop-port-test.true c.port-item.is c.loop-port.invariant c.bits_of_output.ensures c.saturating_add-bits.ensures
