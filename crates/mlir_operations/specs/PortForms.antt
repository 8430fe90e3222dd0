-- Ports by their forms (CIRCT, HW dialect: `hw.module`).
use Rattle.mlir_syntax.specs.Reads.{Reads}
use Rattle.mlir_operations.specs.ModuleText.{PortText, port_text, older_input, output_port}
use Rattle.mlir_operations.specs.declared.port_text.PortForm.{PortForm}
use Rattle.mlir_operations.specs.declared.port_text.PortForm.TheVariants.{Directed, OlderInput, OlderOutput}

-- a port of a form
abbrev pub port_in : PortForm → Reads PortText
port_in Directed = port_text
port_in OlderInput = older_input
port_in OlderOutput = output_port
