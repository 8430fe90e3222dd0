-- The elimination of common subexpressions computed on small bodies: what is merged and what is not, and what goes.
use Rattle.std.proofs.Common.{◌≡◌, ℕ, zero, suc, pos, negsuc, List, [], ◌∷◌, Some, None, refl}
use Rattle.hw_model.specs.Types.{HwType}
use Rattle.hw_model.specs.Types.HwType.{int, struct}
use Rattle.hw_model.specs.Types.FieldTypes.{no_fields, field}
use Rattle.hw_model.specs.Kinds.Literal.{leaf}
use Rattle.hw_model.specs.Kinds.Literals.{no_literals, literal}
use Rattle.hw_model.specs.Kinds.Predicate.{ult, slt}
use Rattle.hw_model.specs.Kinds.RegisterOp.{compreg}
use Rattle.hw_model.specs.Kinds.Reset.{no_reset}
use Rattle.hw_model.specs.Kinds.StructOp.{struct_explode}
use Rattle.hw_model.specs.Kinds.{Kind}
use Rattle.hw_model.specs.Kinds.Kind.{icmp, extract, constant, aggregate_constant, on_struct, wire, register, output}
use Rattle.hw_model.specs.Design.{Ref, Op}
use Rattle.hw_model.specs.Design.Ref.{port, result}
use Rattle.hw_model.proofs.Samples.{operation}
use Rattle.cse_pass.specs.EqualOps.{equal_before}
use Rattle.cse_pass.specs.Merges.{merge_op, merges, HasNoEqual}
use Rattle.cse_pass.specs.Trims.{trims, HasNoUnused}
use Rattle.cse_pass.specs.Cse.{IsCseOf}

abbrev bytes : List HwType
bytes = int 8 ∷ []

-- whether one value is less than another
abbrev less_of : Ref → Ref → Op
less_of r q = operation (icmp ult) (r ∷ q ∷ []) bytes (int 1 ∷ [])

-- the low bits of a value
abbrev low_of : Ref → Op
low_of r = operation (extract 0) (r ∷ []) (int 8 ∷ int 4 ∷ []) (int 4 ∷ [])

abbrev byte_of : ℕ → Op
byte_of n = operation (constant (pos n)) [] bytes bytes

abbrev output_of : List Ref → Op
output_of rs = operation output rs bytes []

abbrev a : Ref
a = port 0

abbrev b : Ref
b = port 1

-- two operations of a kind on the same operands
abbrev pair_of : Kind → List Ref → List Op
pair_of kind rs = operation kind rs bytes bytes ∷ operation kind rs bytes bytes ∷ []

-- ---- equal operations

two_tests : merges 1 (less_of a b ∷ less_of a b ∷ output_of (result 0 0 ∷ result 1 0 ∷ []) ∷ []) ≡ less_of a b ∷ output_of (result 0 0 ∷ result 0 0 ∷ []) ∷ []
two_tests = refl

-- operations become equal where their operands are merged
parts_of_constants : merges 1 (byte_of 3 ∷ byte_of 3 ∷ low_of (result 1 0) ∷ low_of (result 0 0) ∷ output_of (result 3 0 ∷ []) ∷ [])
    ≡ byte_of 3 ∷ low_of (result 0 0) ∷ output_of (result 1 0 ∷ []) ∷ []
parts_of_constants = refl

-- those before what they use wait for the next sweep
abbrev earlier_users : List Op
earlier_users = low_of (result 2 0) ∷ low_of (result 3 0) ∷ byte_of 3 ∷ byte_of 3 ∷ output_of (result 0 0 ∷ result 1 0 ∷ []) ∷ []

first_sweep : merges 1 earlier_users ≡ low_of (result 2 0) ∷ low_of (result 2 0) ∷ byte_of 3 ∷ output_of (result 0 0 ∷ result 1 0 ∷ []) ∷ []
first_sweep = refl

second_sweep : merges 2 earlier_users ≡ low_of (result 1 0) ∷ byte_of 3 ∷ output_of (result 0 0 ∷ result 0 0 ∷ []) ∷ []
second_sweep = refl

-- a number as its type reads it
minus_one : equal_before (byte_of 255 ∷ operation (constant (negsuc 0)) [] bytes bytes ∷ []) 1 ≡ Some 0
minus_one = refl

abbrev pair_type : HwType
pair_type = struct (field (97 ∷ []) (int 8) (field (98 ∷ []) (int 8) no_fields))

minus_one_in_a_struct :
    equal_before
    (operation (aggregate_constant (literal (leaf (pos 255) (int 8)) (literal (leaf (pos 1) (int 8)) no_literals))) [] (pair_type ∷ []) (pair_type ∷ [])
    ∷ operation (aggregate_constant (literal (leaf (negsuc 0) (int 8)) (literal (leaf (pos 1) (int 8)) no_literals))) [] (pair_type ∷ []) (pair_type ∷ []) ∷ []) 1
    ≡ Some 0
minus_one_in_a_struct = refl

-- each result of an operation of several stands for its like
abbrev fields_of : Ref → Op
fields_of r = operation (on_struct struct_explode) (r ∷ []) (pair_type ∷ []) (int 8 ∷ int 8 ∷ [])

each_result : merge_op 1 0 (fields_of a ∷ fields_of a ∷ less_of (result 1 0) (result 1 1) ∷ output_of (result 2 0 ∷ []) ∷ [])
    ≡ fields_of a ∷ less_of (result 0 0) (result 0 1) ∷ output_of (result 1 0 ∷ []) ∷ []
each_result = refl

-- ---- others

other_number : equal_before (byte_of 3 ∷ byte_of 4 ∷ []) 1 ≡ None
other_number = refl

other_type : equal_before (byte_of 3 ∷ operation (constant (pos 3)) [] (int 9 ∷ []) (int 9 ∷ []) ∷ []) 1 ≡ None
other_type = refl

other_order : equal_before (less_of a b ∷ less_of b a ∷ []) 1 ≡ None
other_order = refl

other_predicate : equal_before (less_of a b ∷ operation (icmp slt) (a ∷ b ∷ []) bytes (int 1 ∷ []) ∷ []) 1 ≡ None
other_predicate = refl

two_registers : equal_before (pair_of (register compreg no_reset) (a ∷ b ∷ [])) 1 ≡ None
two_registers = refl

two_wires : equal_before (pair_of wire (a ∷ [])) 1 ≡ None
two_wires = refl

-- ---- operations without uses

-- the last ones first: in one sweep what only they used goes too
unused_chain : trims 1 (byte_of 3 ∷ less_of a (result 0 0) ∷ less_of b (result 1 0) ∷ output_of (a ∷ []) ∷ []) ≡ output_of (a ∷ []) ∷ []
unused_chain = refl

wire_stays : trims 1 (operation wire (a ∷ []) bytes bytes ∷ output_of (a ∷ []) ∷ []) ≡ operation wire (a ∷ []) bytes bytes ∷ output_of (a ∷ []) ∷ []
wire_stays = refl

-- ---- both

abbrev before_both : List Op
before_both = less_of a b ∷ less_of a b ∷ byte_of 3 ∷ output_of (result 0 0 ∷ result 1 0 ∷ []) ∷ []

abbrev between_both : List Op
between_both = less_of a b ∷ byte_of 3 ∷ output_of (result 0 0 ∷ result 0 0 ∷ []) ∷ []

abbrev after_both : List Op
after_both = less_of a b ∷ output_of (result 0 0 ∷ result 0 0 ∷ []) ∷ []

none_equal : HasNoEqual between_both
none_equal zero = refl
none_equal (suc zero) = refl
none_equal (suc (suc zero)) = refl
none_equal (suc (suc (suc i))) = refl

none_unused : HasNoUnused after_both
none_unused zero = refl
none_unused (suc zero) = refl
none_unused (suc (suc i)) = refl

merged_and_trimmed : IsCseOf before_both after_both
merged_and_trimmed = record {
  between = between_both;
  merged = record { sweeps = 1; is = refl; none_left = none_equal };
  trimmed = record { sweeps = 1; is = refl; none_left = none_unused };
}
