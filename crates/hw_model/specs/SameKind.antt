-- Whether two kinds are one.
use Rattle.std.specs.Prelude.{Bool, true, false, ◌&&◌, nat_eq, ℕ, ℤ, pos, negsuc, Option, Some, None}
use Rattle.std.specs.Cmp.Lexicographic.{pointwise}
use Rattle.hw_model.specs.Types.{Name}
use Rattle.hw_model.specs.Kinds.{Kind, Predicate, Reset, Literal, Literals, Instance}
use Rattle.hw_model.specs.Kinds.Predicate.{eq, ne, slt, sle, sgt, sge, ult, ule, ugt, uge, ceq, cne, weq, wne}
use Rattle.hw_model.specs.Kinds.Reset.{no_reset, sync_reset}
use Rattle.hw_model.specs.Kinds.Literal.{leaf, parts}
use Rattle.hw_model.specs.Kinds.Literals.{no_literals, literal}
use Rattle.hw_model.specs.Kinds.StructOp.{struct_extract, struct_inject}
use Rattle.hw_model.specs.Kinds.Kind.{icmp, extract, constant, aggregate_constant, on_struct, instance, register, async_firreg}
use Rattle.opcode.specs.Listed.{name_of_listed}
use Rattle.opcode.specs.declared.listed.Listed.{Listed}
use Rattle.hw_model.specs.Design.{same_name}
use Rattle.hw_model.specs.Opcodes.{register_opcode, opcode_of}
use Rattle.hw_model.specs.SameType.{same_type}

-- the predicates by number
abbrev pub predicate_number : Predicate → ℕ
predicate_number eq = 0
predicate_number ne = 1
predicate_number slt = 2
predicate_number sle = 3
predicate_number sgt = 4
predicate_number sge = 5
predicate_number ult = 6
predicate_number ule = 7
predicate_number ugt = 8
predicate_number uge = 9
predicate_number ceq = 10
predicate_number cne = 11
predicate_number weq = 12
predicate_number wne = 13

abbrev pub same_predicate : Predicate → Predicate → Bool
same_predicate p q = nat_eq (predicate_number p) (predicate_number q)

abbrev pub same_reset : Reset → Reset → Bool
same_reset no_reset no_reset = true
same_reset sync_reset sync_reset = true
same_reset _ _ = false

abbrev pub same_integer : ℤ → ℤ → Bool
same_integer (pos m) (pos n) = nat_eq m n
same_integer (negsuc m) (negsuc n) = nat_eq m n
same_integer _ _ = false

abbrev mutual
  pub same_literal : Literal → Literal → Bool
  same_literal (leaf y t) (leaf z u) = same_integer y z && same_type t u
  same_literal (parts ks) (parts ls) = same_literals ks ls
  same_literal _ _ = false

  pub same_literals : Literals → Literals → Bool
  same_literals no_literals no_literals = true
  same_literals (literal k ks) (literal l ls) = same_literal k l && same_literals ks ls
  same_literals _ _ = false

abbrev pub same_optional_name : Option Name → Option Name → Bool
same_optional_name None None = true
same_optional_name (Some f) (Some g) = same_name f g
same_optional_name _ _ = false

abbrev pub same_instance : Instance → Instance → Bool
same_instance i j = same_name i.name j.name && (same_optional_name i.inner_symbol j.inner_symbol
    && (same_name i.symbol j.symbol && (pointwise same_name i.inputs j.inputs && pointwise same_name i.outputs j.outputs)))

-- whether two opcodes are one, by their names
abbrev pub same_opcode : Listed → Listed → Bool
same_opcode a b = same_name (name_of_listed a) (name_of_listed b)

abbrev pub is_icmp : Predicate → Kind → Bool
is_icmp own (icmp other) = same_predicate own other
is_icmp own _ = false

abbrev pub is_extract : ℕ → Kind → Bool
is_extract own (extract other) = nat_eq own other
is_extract own _ = false

abbrev pub is_constant : ℤ → Kind → Bool
is_constant own (constant other) = same_integer own other
is_constant own _ = false

abbrev pub is_aggregate_constant : Literals → Kind → Bool
is_aggregate_constant own (aggregate_constant other) = same_literals own other
is_aggregate_constant own _ = false

abbrev pub is_struct_extract : Name → Kind → Bool
is_struct_extract own (on_struct (struct_extract other)) = same_name own other
is_struct_extract own _ = false

abbrev pub is_struct_inject : Name → Kind → Bool
is_struct_inject own (on_struct (struct_inject other)) = same_name own other
is_struct_inject own _ = false

abbrev pub is_instance : Instance → Kind → Bool
is_instance own (instance other) = same_instance own other
is_instance own _ = false

-- of the register of an opcode
abbrev pub is_register : Listed → Reset → Kind → Bool
is_register own reset (register other r) = same_opcode own (register_opcode other) && same_reset reset r
is_register own reset _ = false

abbrev pub is_async_firreg : Kind → Bool
is_async_firreg async_firreg = true
is_async_firreg _ = false

-- whether two kinds are one
abbrev pub same_kind : Kind → Kind → Bool
same_kind (icmp p) k = is_icmp p k
same_kind (extract low) k = is_extract low k
same_kind (constant z) k = is_constant z k
same_kind (aggregate_constant ls) k = is_aggregate_constant ls k
same_kind (on_struct (struct_extract name)) k = is_struct_extract name k
same_kind (on_struct (struct_inject name)) k = is_struct_inject name k
same_kind (instance i) k = is_instance i k
same_kind (register f r) k = is_register (register_opcode f) r k
same_kind async_firreg k = is_async_firreg k
same_kind j k = same_opcode (opcode_of j) (opcode_of k)
