-- How operations are printed: one line each.
use Rattle.std.specs.Prelude.{ℕ, Bool, false, cond, List, [], ◌∷◌, ◌++◌, None, codes}
use Rattle.opcode.specs.declared.listed.Listed.{Listed}
use Rattle.opcode.specs.declared.listed.Listed.TheVariants as listed
use Rattle.opcode.specs.Listed.{name_of_listed}
use Rattle.hw_model.specs.Types.{HwType}
use Rattle.mlir_operations.specs.OperandText.{ResultNames}
use Rattle.mlir_operations.specs.OperandText.ResultNames.{no_names, names, pack}
use Rattle.mlir_operations.specs.ElementText.{InherentAttributes}
use Rattle.mlir_operations.specs.ElementText.InherentAttributes.{number}
use Rattle.hw_model.specs.Design.{Entry}
use Rattle.assembly_format.specs.Formats.{format_of, prefix_elements, type_elements}
use Rattle.assembly_format.specs.declared.elements.FormatElement.{FormatElement}
use Rattle.assembly_format.specs.declared.elements.Format.{Format}
use Rattle.assembly_format.specs.declared.elements.Format.TheVariants as format
use Rattle.printing_laws.specs.Numbers.{count_bytes, is_shown_as_truth}
use Rattle.mlir_printer.specs.Elements.{ValueText, Pending, value_name_bytes, elements_bytes, left_after}
use Rattle.mlir_printer.specs.Attributes.{dictionary_bytes}
use Rattle.mlir_printer.specs.Commas.{commas}

-- an operation as it is printed: the names of its results, its name, its `bin` mark, what stands after them, and its dictionary
pub record OperationText : Type 0 where
  pub results : ResultNames
  pub name : Listed
  pub bin : Bool
  pub pending : Pending
  pub dictionary : List Entry

-- `%x = `, `%a, %b = `, `%x:k = `, or nothing
unfoldable pub results_bytes : ResultNames → List ℕ
results_bytes no_names = []
results_bytes (names n ns) = commas value_name_bytes (n ∷ ns) ++ codes " = "
results_bytes (pack n k) = value_name_bytes n ++ (codes ":" ++ (count_bytes k ++ codes " = "))

-- ` bin`, or nothing
unfoldable pub bin_bytes : Bool → List ℕ
bin_bytes b = cond b (codes " bin") []

-- whether what is said of a constant of the first of some types is printed as `true` or `false`
abbrev pub is_truth_view : List HwType → InherentAttributes → Bool
is_truth_view (t ∷ ts) (number z) = is_shown_as_truth t z
is_truth_view _ _ = false

-- an output with values has their types
abbrev pub output_format : List ValueText → Format
output_format [] = format.Nothing
output_format (o ∷ os) = format.Joined

-- the form of an operation
unfoldable pub format_shown : Listed → Pending → Format
format_shown listed.HwConstant g = cond (is_truth_view g.types g.inherent) format.Truth format.Integer
format_shown listed.HwOutput g = output_format g.operands
format_shown o g = format_of o None

-- a blank before what stands after a name
abbrev pub after_blank : List FormatElement → List ℕ → List ℕ
after_blank [] bytes = bytes
after_blank (p ∷ ps) bytes = codes " " ++ bytes

-- what is left after pieces
abbrev pub left_after_all : List FormatElement → Pending → Pending
left_after_all [] g = g
left_after_all (p ∷ ps) g = left_after_all ps (left_after p g)

-- a form: pieces, a dictionary, and the types
unfoldable pub form_bytes : List FormatElement → List FormatElement → Pending → List Entry → List ℕ
form_bytes prefix types g es =
    after_blank prefix (elements_bytes prefix g) ++ (dictionary_bytes (codes " ") es ++ elements_bytes types (left_after_all prefix g))

-- an operation of a form
unfoldable pub shaped_bytes : Format → OperationText → List ℕ
shaped_bytes s o =
    results_bytes o.results ++ (name_of_listed o.name ++ (bin_bytes o.bin ++ form_bytes (prefix_elements s) (type_elements s) o.pending o.dictionary))

-- an operation
unfoldable pub operation_bytes : OperationText → List ℕ
operation_bytes o = shaped_bytes (format_shown o.name o.pending) o

-- a line of a body
unfoldable pub operation_line : OperationText → List ℕ
operation_line o = codes "    " ++ (operation_bytes o ++ (10 ∷ []))

-- the lines of a body
abbrev pub operation_lines : List OperationText → List ℕ
operation_lines [] = []
operation_lines (o ∷ os) = operation_line o ++ operation_lines os
