-- A number of 64 bits that equal operations have in common, by which one that is equal is looked up.
use Rattle.std.specs.Prelude.{ℕ, ◌+◌, ◌*◌, ◌/◌, ◌%◌, ◌^◌, pos, min, List, [], ◌∷◌, Option, Some, None}
use Rattle.opcode.specs.Listed.{name_of_listed}
use Rattle.hw_model.specs.Types.{HwType, width}
use Rattle.hw_model.specs.Kinds.{Kind, Literal, Literals}
use Rattle.hw_model.specs.Kinds.Kind.{extract, constant, aggregate_constant, on_struct}
use Rattle.hw_model.specs.Kinds.Literal.{leaf, parts}
use Rattle.hw_model.specs.Kinds.Literals.{no_literals, literal}
use Rattle.hw_model.specs.Kinds.StructOp.{struct_extract, struct_inject}
use Rattle.hw_model.specs.Opcodes.{opcode_of}
use Rattle.ir_store.specs.declared.operation.Value.{Value}
use Rattle.ir_store.specs.declared.operation.Value.TheVariants.{Port, Result, Undefined}
use Rattle.ir_store.specs.OperationViews.{OpParts}
use Rattle.cse_pass.specs.EqualOps.{value_kind}
use Rattle.cse_pass.specs.Same.{first_type}

-- a hash with one more number in it (multiplicative hashing: Knuth, The Art of Computer Programming, volume 3, 6.4)
unfoldable pub mixed : ℕ → ℕ → ℕ
mixed h n = (h * 11400714819323198485 + n) % 2 ^ 64

-- a hash with a value in it
abbrev pub with_value : ℕ → Value → ℕ
with_value h (Port n) = mixed (mixed h 4294967295) n
with_value h (Result id k) = mixed (mixed h k) id.index
with_value h Undefined = mixed h 4294967295

-- with values, one after another
abbrev pub with_values : ℕ → List Value → ℕ
with_values h [] = h
with_values h (v ∷ vs) = with_values (with_value h v) vs

-- with the bytes of a name, one after another
abbrev pub with_bytes : ℕ → List ℕ → ℕ
with_bytes h [] = h
with_bytes h (b ∷ bs) = with_bytes (mixed h b) bs

-- with a number below 2^128
unfoldable pub with_low : ℕ → ℕ → ℕ
with_low h n = mixed (mixed h (n % 2 ^ 64)) (n / 2 ^ 64)

-- with the low 128 bits of a number
abbrev pub with_number : ℕ → ℕ → ℕ
with_number h n = with_low h (n % 2 ^ 128)

-- with the numbers of a constant of an aggregate type, and the widths of their types, one after another
abbrev mutual
  pub with_literal : ℕ → Literal → ℕ
  with_literal h (leaf (pos n) t) = mixed (with_number h n) (min (width t) 18446744073709551615)
  with_literal h (leaf z t) = h
  with_literal h (parts ls) = with_literals h ls

  pub with_literals : ℕ → Literals → ℕ
  with_literals h no_literals = h
  with_literals h (literal l ls) = with_literals (with_literal h l) ls

-- with what a kind says besides its opcode: the lowest bit of an extract, the numbers of a constant, the name of a field
abbrev pub with_attributes : ℕ → Kind → ℕ
with_attributes h (extract low) = mixed h low
with_attributes h (constant (pos n)) = with_number h n
with_attributes h (aggregate_constant ls) = with_literals h ls
with_attributes h (on_struct (struct_extract name)) = with_bytes h name
with_attributes h (on_struct (struct_inject name)) = with_bytes h name
with_attributes h kind = h

-- the width of a type, where there is one
abbrev pub width_number : Option HwType → ℕ
width_number None = 0
width_number (Some t) = min (width t) 18446744073709551615

-- the number that a kind begins with: of the width of the first result, of the opcode and of the kind as it is read
abbrev pub attribute_number : Kind → Option HwType → ℕ
attribute_number kind t = with_attributes (with_bytes (width_number t) (name_of_listed (opcode_of kind))) (value_kind t kind)

-- the hash of an operation that has these operands
unfoldable pub hash_of : OpParts → List Value → ℕ
hash_of p vs = with_values (attribute_number p.kind (first_type p)) vs
