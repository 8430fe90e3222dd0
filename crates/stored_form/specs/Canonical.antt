-- The canonical form: what holds of each design that is read, and is asked of each that is verified.
use Rattle.std.specs.Prelude.{◌≡◌, ◌^◌, ◌<◌, true, false, [], length}
use Rattle.opcode.specs.declared.listed.Listed.TheVariants as listed
use Rattle.hw_model.specs.Opcodes.{opcode_of}
use Rattle.hw_model.specs.Design.{Port, Op, Module, Design}
use Rattle.type_inference.specs.ResultTypes.{result_types}
use Rattle.mlir_syntax.specs.Numerals.{count_limit}
use Rattle.stored_form.specs.Bytes.{Each, AreBytes}
use Rattle.stored_form.specs.Limits.{IsAnyType}
use Rattle.stored_form.specs.Dictionaries.{takes_bin, string_keys, module_keys, has_name, IsKeptDictionary}
use Rattle.stored_form.specs.Kinds.{KeepsConstants, IsWritten}
use Rattle.stored_form.specs.ResultTypes.{HaveTypes}

-- an operation
pub record IsCanonicalOp (o : Op) : Type 0 where
  -- the results are of the types that the kind and the types give
  pub types : HaveTypes o.results (result_types o.kind o.types (length o.operands))
  -- the types can be read
  pub readable : Each IsAnyType o.types
  -- constants are kept as their bits
  pub kept : KeepsConstants o.kind o.types
  -- what is said besides operands and types can be written
  pub written : IsWritten o.kind
  -- only registers and wires have a name of their own
  pub nameless : has_name (opcode_of o.kind) ≡ false → o.name ≡ []
  -- that name is bytes
  pub name : AreBytes o.name
  -- the dictionary is one that is kept, without the own name
  pub dictionary : IsKeptDictionary (opcode_of o.kind) (string_keys (opcode_of o.kind)) o.dictionary
  -- `bin` stands only where it may
  pub bin : o.bin ≡ true → takes_bin (opcode_of o.kind) ≡ true
  -- fewer results than the limit are named
  pub named : o.named < count_limit

-- a port
pub record IsCanonicalPort (p : Port) : Type 0 where
  -- its name is bytes
  pub name : AreBytes p.name
  -- its type can be read
  pub type : IsAnyType p.type

-- a module
pub record IsCanonicalModule (m : Module) : Type 0 where
  -- its symbol is bytes
  pub symbol : AreBytes m.symbol
  -- each port is in canonical form
  pub ports : Each IsCanonicalPort m.ports
  -- the dictionary is one that is kept
  pub dictionary : IsKeptDictionary listed.HwModule module_keys m.dictionary
  -- each operation is in canonical form
  pub operations : Each IsCanonicalOp m.body
  -- there are fewer than 2^32 ports
  pub few_ports : length m.ports < 2 ^ 32
  -- there are fewer than 2^32 operations
  pub few_operations : length m.body < 2 ^ 32

-- each module is in canonical form
abbrev pub IsCanonical : Design → Type 0
IsCanonical d = Each IsCanonicalModule d
