-- Kinds of operations as they are kept: constants by their bits, numbers within the limits of a text, names as bytes.
use Rattle.std.specs.Prelude.{◌≡◌, ◌<◌, List, ⊤}
use Rattle.hw_model.specs.Types.{HwType}
use Rattle.hw_model.specs.Kinds.{Kind, Instance}
use Rattle.hw_model.specs.Kinds.StructOp.{struct_extract, struct_inject}
use Rattle.hw_model.specs.Kinds.Kind.{extract, constant, aggregate_constant, on_struct, instance}
use Rattle.mlir_syntax.specs.Numerals.{count_limit}
use Rattle.stored_form.specs.Bytes.{Each, AreBytes, MayBeBytes}
use Rattle.stored_form.specs.Limits.{IsInteger, AreLiterals}
use Rattle.stored_form.specs.Constants.{kept_by_first, kept_literals}

-- constants of integer types are kept as the numbers that their bits are
abbrev pub KeepsConstants : Kind → List HwType → Type 0
KeepsConstants (constant z) ts = kept_by_first ts z ≡ z
KeepsConstants (aggregate_constant ls) ts = kept_literals ls ≡ ls
KeepsConstants _ ts = ⊤

-- the names that an instance has
pub record IsWrittenInstance (i : Instance) : Type 0 where
  -- its own name is bytes
  pub name : AreBytes i.name
  -- so is its inner symbol, where it has one
  pub inner : MayBeBytes i.inner_symbol
  -- so is the symbol of its module
  pub symbol : AreBytes i.symbol
  -- so are the names of the inputs
  pub inputs : Each AreBytes i.inputs
  -- so are the names of the outputs
  pub outputs : Each AreBytes i.outputs

-- what a kind says besides operands and types can be written: numbers are below the limits of the text, names are bytes
abbrev pub IsWritten : Kind → Type 0
IsWritten (extract low) = low < count_limit
IsWritten (constant z) = IsInteger z
IsWritten (aggregate_constant ls) = AreLiterals ls 31
IsWritten (on_struct (struct_extract name)) = AreBytes name
IsWritten (on_struct (struct_inject name)) = AreBytes name
IsWritten (instance i) = IsWrittenInstance i
IsWritten _ = ⊤
