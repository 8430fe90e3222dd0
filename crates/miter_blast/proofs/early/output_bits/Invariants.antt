use Rattle.std.proofs.Common.{◌≡◌, min, map, take}
use Rattle.ir_store.specs.Designs.{port_of}
use Rattle.miter_blast.proofs.OutputBits.{bits_of_outputs}
use Rattle.miter_blast.proofs.early.output_bits.Given as goal

abbrev pub invariant-loop-port : goal.invariant-loop-port
invariant-loop-port l = l.bits ≡ min (bits_of_outputs (map port_of (take l.port-index l.port-items))) 18446744073709551615
