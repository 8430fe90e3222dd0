-- What a design must have to be printed and read again as itself.
use Rattle.std.specs.Prelude.{◌≡◌, ◌^◌, ◌<◌, true, false, List, [], ◌∷◌, ◌++◌, length, map, Option, Some, slice_get}
use Rattle.opcode.specs.declared.listed.Listed.TheVariants as listed
use Rattle.hw_model.specs.Types.{HwType}
use Rattle.hw_model.specs.Opcodes.{opcode_of}
use Rattle.hw_model.specs.Design.{Ref, Port, OpResult, Op, Module, Design, is_output_op}
use Rattle.hw_model.specs.Design.Ref.{port, result, undefined}
use Rattle.type_inference.specs.ResultTypes.{result_types}
use Rattle.op_checks.specs.CountChecks.{operands_written, type_count}
use Rattle.mlir_syntax.specs.Numerals.{count_limit}
use Rattle.stored_form.specs.Dictionaries.{takes_bin, string_keys}
use Rattle.stored_form.specs.Dictionaries.{module_keys}
use Rattle.stored_form.specs.Dictionaries.{has_name}
use Rattle.stored_form.specs.ResultTypes.{type_or_none}
use Rattle.printing_laws.specs.NameHints.{is_pack, port_name_hints, body_name_hints}
use Rattle.printing_laws.specs.Parts.{parts_in}
use Rattle.stored_form.specs.Bytes.{Each, AreBytes}
use Rattle.stored_form.specs.Limits.{IsAnyType}
use Rattle.stored_form.specs.Kinds.{KeepsConstants, IsWritten}
use Rattle.stored_form.specs.Dictionaries.{IsKeptDictionary}

-- ---- dictionaries

-- ---- values

-- an operand is an input port or a result of an operation of the body
abbrev pub IsDefined : List Port → List Op → Ref → Type 0
IsDefined ports body (port j) = (p : Port) × (slice_get ports j ≡ Some p) × (p.is_output ≡ false)
IsDefined ports body (result i k) = (o : Op) × (slice_get body i ≡ Some o) × (k < length o.results)
IsDefined ports body undefined = ⊥

-- a result of a type, whose name was not defined earlier
abbrev pub settled_result : Option HwType → OpResult
settled_result t = record { type = type_or_none t; again = false }

-- ---- kinds

-- ---- operations

-- an operation of a body of a module with these ports
pub record IsPrintableOp (ports : List Port) (body : List Op) (o : Op) : Type 0 where
  -- each operand is a value of the body
  pub defined : Each (IsDefined ports body) o.operands
  -- there are as many operands as the text has
  pub operands : length o.operands ≡ operands_written o.kind (length o.operands)
  -- there are as many types as the text has
  pub types : length o.types ≡ type_count o.kind (length o.operands)
  -- the types can be read
  pub readable : Each IsAnyType o.types
  -- the results are those that the kind and the types give, and no name was defined earlier
  pub results : o.results ≡ map settled_result (result_types o.kind o.types (length o.operands))
  -- each result is named
  pub named : o.named ≡ length o.results
  -- a pack has fewer results than its limit
  pub few : is_pack o.kind (length o.results) ≡ true → length o.results < count_limit
  -- constants are kept as their bits
  pub kept : KeepsConstants o.kind o.types
  -- what is said besides operands and types can be written
  pub written : IsWritten o.kind
  -- only registers and wires have a name of their own
  pub nameless : has_name (opcode_of o.kind) ≡ false → o.name ≡ []
  -- that name is bytes
  pub name : AreBytes o.name
  -- the dictionary is one that is kept, without the own name
  pub dictionary : IsKeptDictionary (opcode_of o.kind) (string_keys (opcode_of o.kind)) o.dictionary
  -- `bin` stands only where it may
  pub bin : o.bin ≡ true → takes_bin (opcode_of o.kind) ≡ true

-- ---- modules

-- a port
pub record IsPrintablePort (p : Port) : Type 0 where
  -- its name was not defined earlier
  pub first : p.again ≡ false
  -- its name is bytes
  pub name : AreBytes p.name
  -- its type can be read
  pub type : IsAnyType p.type

-- a body ends with its one output
abbrev pub EndsWithOutput : List Op → Type 0
EndsWithOutput [] = ⊥
EndsWithOutput (o ∷ []) = is_output_op o ≡ true
EndsWithOutput (o ∷ p ∷ os) = (is_output_op o ≡ false) × EndsWithOutput (p ∷ os)

-- a module
pub record IsPrintableModule (m : Module) : Type 0 where
  -- its symbol is bytes
  pub symbol : AreBytes m.symbol
  -- each port can be printed
  pub ports : Each IsPrintablePort m.ports
  -- the dictionary is one that is kept
  pub dictionary : IsKeptDictionary listed.HwModule module_keys m.dictionary
  -- each operation can be printed
  pub operations : Each (IsPrintableOp m.ports m.body) m.body
  -- the body ends with its one output
  pub ends : EndsWithOutput m.body
  -- fewer than 2^64 names are given
  pub few : length (port_name_hints m.ports ++ body_name_hints (map parts_in m.body)) < 2 ^ 64

-- each module can be printed
abbrev pub Printable : Design → Type 0
Printable d = Each IsPrintableModule d
