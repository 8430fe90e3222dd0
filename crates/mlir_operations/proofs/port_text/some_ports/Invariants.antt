use Rattle.std.proofs.Common.{length}
use Rattle.mlir_operations.specs.ModuleText.{header}
use Rattle.mlir_operations.specs.PortForms.{port_in}
use Rattle.mlir_operations.specs.Views.{port_text_of}
use Rattle.mlir_syntax.proofs.Lists.{Gathering}
use Rattle.mlir_operations.proofs.port_text.some_ports.Given as goal

abbrev pub invariant-loop-port : goal.invariant-loop-port
invariant-loop-port l = Gathering port_text_of header (port_in l.form) l.fn.reader l.ports.items l.reader

abbrev pub decreases-loop-port : goal.decreases-loop-port
decreases-loop-port l = length l.reader
