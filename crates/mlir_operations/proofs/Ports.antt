-- Ports in a list.
use Rattle.std.proofs.Common.{refl}
use Rattle.mlir_operations.specs.ModuleText.{header, port_text, output_port, older_input}
use Rattle.mlir_operations.specs.PortForms.{port_in}
use Rattle.mlir_operations.specs.declared.port_text.PortForm.{PortForm}
use Rattle.mlir_operations.specs.declared.port_text.PortForm.TheVariants.{Directed, OlderInput, OlderOutput}
use Rattle.mlir_syntax.specs.TypeText.{name_text}
use Rattle.mlir_operations.specs.OperandText.{value_name}
use Rattle.mlir_syntax.specs.Reads.{want}
use Rattle.mlir_syntax.proofs.Lists.{IsItem}

pub is_port : (form : PortForm) → IsItem header (port_in form)
unfolding port_text output_port older_input name_text value_name want
is_port Directed = refl
is_port OlderInput = refl
is_port OlderOutput = refl
