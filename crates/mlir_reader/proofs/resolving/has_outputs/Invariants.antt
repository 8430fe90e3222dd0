use Rattle.std.proofs.Common.{◌≡◌, map, drop}
use Rattle.mlir_reader.specs.Resolving.{has_outputs}
use Rattle.mlir_operations.specs.Views.{port_text_of}
use Rattle.mlir_reader.proofs.resolving.has_outputs.Given as goal

abbrev pub invariant-loop-port : goal.invariant-loop-port
invariant-loop-port l = has_outputs (map port_text_of l.ports) ≡ has_outputs (map port_text_of (drop l.port-index l.ports))
