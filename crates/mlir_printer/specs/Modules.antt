-- How modules and whole designs are printed (CIRCT, HW dialect: `hw.module`; MLIR, builtin dialect: `builtin.module`).
use Rattle.std.specs.Prelude.{ℕ, Bool, cond, List, [], ◌∷◌, ◌++◌, Option, Some, None, codes}
use Rattle.hw_model.specs.Types.{Name, HwType}
use Rattle.hw_model.specs.Design.{same_name, Entry}
use Rattle.mlir_printer.specs.Strings.{string_bytes, name_bytes, symbol_bytes}
use Rattle.mlir_printer.specs.Types.{type_bytes}
use Rattle.mlir_printer.specs.Attributes.{dictionary_bytes}
use Rattle.mlir_printer.specs.Elements.{value_name_bytes}
use Rattle.mlir_printer.specs.Operations.{OperationText, operation_lines}
use Rattle.mlir_printer.specs.Commas.{commas}

-- a port as it is printed: of an input the name of its value, of an output none
pub record PortText : Type 0 where
  pub value : Option Name
  pub name : Name
  pub type : HwType

-- a module as it is printed
pub record ModuleText : Type 0 where
  pub symbol : Name
  pub is_private : Bool
  pub ports : List PortText
  pub dictionary : List Entry
  pub operations : List OperationText

-- ` "name"`, where a port is not called as its value
unfoldable pub port_name_bytes : Name → Name → List ℕ
port_name_bytes value name = cond (same_name value name) [] (codes " " ++ string_bytes name)

-- `in %v ["name"] : T`
unfoldable pub input_port_bytes : Name → Name → HwType → List ℕ
input_port_bytes value name type = codes "in " ++ (value_name_bytes value ++ (port_name_bytes value name ++ (codes " : " ++ type_bytes type)))

-- `out name : T`
unfoldable pub output_port_bytes : Name → HwType → List ℕ
output_port_bytes name type = codes "out " ++ (name_bytes name ++ (codes " : " ++ type_bytes type))

abbrev pub port_bytes_by : Option Name → Name → HwType → List ℕ
port_bytes_by None name type = output_port_bytes name type
port_bytes_by (Some v) name type = input_port_bytes v name type

-- a port
abbrev pub port_bytes : PortText → List ℕ
port_bytes p = port_bytes_by p.value p.name p.type

-- `private `, or nothing
unfoldable pub private_bytes : Bool → List ℕ
private_bytes b = cond b (codes "private ") []

-- the first line of a module
unfoldable pub header_bytes : ModuleText → List ℕ
header_bytes m =
    codes "  hw.module " ++ (private_bytes m.is_private ++ (symbol_bytes m.symbol
    ++ (codes "(" ++ (commas port_bytes m.ports ++ (codes ")" ++ (dictionary_bytes (codes " attributes ") m.dictionary ++ (codes " {" ++ (10 ∷ []))))))))

-- a module
unfoldable pub module_bytes : ModuleText → List ℕ
module_bytes m = header_bytes m ++ (operation_lines m.operations ++ (codes "  }" ++ (10 ∷ [])))

-- modules, one after another
abbrev pub modules_bytes : List ModuleText → List ℕ
modules_bytes [] = []
modules_bytes (m ∷ ms) = module_bytes m ++ modules_bytes ms

-- a file: the modules in one module of the builtin dialect
unfoldable pub file_bytes : List ModuleText → List ℕ
file_bytes ms = (codes "module {" ++ (10 ∷ [])) ++ (modules_bytes ms ++ (codes "}" ++ (10 ∷ [])))
