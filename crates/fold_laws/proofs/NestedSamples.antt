-- The patterns by which an operation takes in another one, each computed on a small body, and where it does not match.
use Rattle.std.proofs.Common.{◌≡◌, ℕ, true, List, [], ◌∷◌, Option, Some, None, refl}
use Rattle.std.specs.Prelude.{codes}
use Rattle.hw_model.specs.Types.{HwType}
use Rattle.hw_model.specs.Types.HwType.{int}
use Rattle.hw_model.specs.Kinds.{Variadic}
use Rattle.hw_model.specs.Kinds.Variadic.{add, mul, xor}
use Rattle.hw_model.specs.Kinds.Kind.{variadic, extract, concat, output}
use Rattle.hw_model.specs.Design.{Ref, Op}
use Rattle.hw_model.specs.Design.Ref.{port, result}
use Rattle.hw_model.proofs.Samples.{operation, module_of}
use Rattle.fold_laws.specs.Edits.{FoldPattern, fold_by}
use Rattle.fold_laws.specs.Nested.{use_count, has_one_use, splice, fold_nested_operand, fold_extract_extract, fold_nested_concat}

-- ---- bodies of two operations and an output

-- what a pattern makes of the operation at a position
abbrev pattern_at : FoldPattern → ℕ → List Op → Option (List Op)
pattern_at pattern i os = fold_by pattern (module_of (codes "M") [] os) i

abbrev bytes : List HwType
bytes = int 8 ∷ []

abbrev output_of : List Ref → Op
output_of rs = operation output rs bytes []

-- an operation of any number of operands
abbrev of_bytes : Variadic → List Ref → Op
of_bytes v rs = operation (variadic v) rs bytes bytes

abbrev a : Ref
a = port 0

abbrev b : Ref
b = port 1

abbrev c : Ref
c = port 2

abbrev e : Ref
e = port 3

-- the results of the operations
abbrev x : Ref
x = result 0 0

abbrev y : Ref
y = result 1 0

abbrev z : Ref
z = result 2 0

-- ---- uses and positions

two_uses : use_count 0 (of_bytes add (a ∷ b ∷ []) ∷ of_bytes add (x ∷ c ∷ x ∷ []) ∷ output_of (y ∷ []) ∷ []) ≡ 2
two_uses = refl

one_use : has_one_use (of_bytes add (a ∷ b ∷ []) ∷ of_bytes add (x ∷ c ∷ x ∷ []) ∷ output_of (y ∷ []) ∷ []) 1 ≡ true
one_use = refl

in_the_middle : splice 1 (a ∷ b ∷ []) (c ∷ x ∷ e ∷ []) ≡ c ∷ a ∷ b ∷ e ∷ []
in_the_middle = refl

-- ---- any number of operands

nested_sum : pattern_at fold_nested_operand 1 (of_bytes add (a ∷ b ∷ []) ∷ of_bytes add (c ∷ x ∷ e ∷ []) ∷ output_of (y ∷ []) ∷ [])
    ≡ Some (of_bytes add (c ∷ a ∷ b ∷ e ∷ []) ∷ output_of (x ∷ []) ∷ [])
nested_sum = refl

nested_later : pattern_at fold_nested_operand 0 (of_bytes mul (c ∷ y ∷ []) ∷ of_bytes mul (a ∷ b ∷ []) ∷ output_of (x ∷ []) ∷ [])
    ≡ Some (of_bytes mul (c ∷ a ∷ b ∷ []) ∷ output_of (x ∷ []) ∷ [])
nested_later = refl

lowest_first : pattern_at fold_nested_operand 2 (of_bytes xor (a ∷ b ∷ []) ∷ of_bytes xor (c ∷ e ∷ []) ∷ of_bytes xor (y ∷ x ∷ []) ∷ output_of (z ∷ []) ∷ [])
    ≡ Some (of_bytes xor (a ∷ b ∷ []) ∷ of_bytes xor (c ∷ e ∷ x ∷ []) ∷ output_of (y ∷ []) ∷ [])
lowest_first = refl

of_another_kind : pattern_at fold_nested_operand 1 (of_bytes mul (a ∷ b ∷ []) ∷ of_bytes add (c ∷ x ∷ []) ∷ output_of (y ∷ []) ∷ []) ≡ None
of_another_kind = refl

used_twice : pattern_at fold_nested_operand 1 (of_bytes add (a ∷ b ∷ []) ∷ of_bytes add (x ∷ x ∷ []) ∷ output_of (y ∷ []) ∷ []) ≡ None
used_twice = refl

used_elsewhere : pattern_at fold_nested_operand 1 (of_bytes add (a ∷ b ∷ []) ∷ of_bytes add (c ∷ x ∷ []) ∷ output_of (x ∷ []) ∷ []) ≡ None
used_elsewhere = refl

of_itself : pattern_at fold_nested_operand 0 (of_bytes add (a ∷ x ∷ []) ∷ output_of (a ∷ []) ∷ []) ≡ None
of_itself = refl

not_an_operand : pattern_at fold_nested_operand 1 (of_bytes add (a ∷ b ∷ []) ∷ of_bytes add (c ∷ e ∷ []) ∷ output_of (y ∷ []) ∷ []) ≡ None
not_an_operand = refl

-- ---- an extract of an extract

-- of bits of eight and of four bits
abbrev low_of_byte : ℕ → Ref → ℕ → Op
low_of_byte low r w = operation (extract low) (r ∷ []) (int 8 ∷ int w ∷ []) (int w ∷ [])

abbrev low_of_four : ℕ → Ref → ℕ → Op
low_of_four low r w = operation (extract low) (r ∷ []) (int 4 ∷ int w ∷ []) (int w ∷ [])

extracts : pattern_at fold_extract_extract 1 (low_of_byte 3 a 4 ∷ low_of_four 1 x 2 ∷ output_of (y ∷ []) ∷ [])
    ≡ Some (low_of_byte 4 a 2 ∷ output_of (x ∷ []) ∷ [])
extracts = refl

extract_used_twice : pattern_at fold_extract_extract 1 (low_of_byte 3 a 4 ∷ low_of_four 1 x 2 ∷ output_of (x ∷ []) ∷ []) ≡ None
extract_used_twice = refl

extract_of_sum : pattern_at fold_extract_extract 1 (of_bytes add (a ∷ b ∷ []) ∷ low_of_byte 1 x 2 ∷ output_of (y ∷ []) ∷ []) ≡ None
extract_of_sum = refl

extract_of_itself : pattern_at fold_extract_extract 0 (low_of_byte 0 x 8 ∷ output_of (a ∷ []) ∷ []) ≡ None
extract_of_itself = refl

-- ---- a concat within a concat

nested_join : pattern_at fold_nested_concat 1
    (operation concat (a ∷ b ∷ []) (int 1 ∷ int 2 ∷ []) (int 3 ∷ []) ∷ operation concat (c ∷ x ∷ e ∷ []) (int 4 ∷ int 3 ∷ int 1 ∷ []) (int 8 ∷ []) ∷ output_of (y ∷ []) ∷ [])
    ≡ Some (operation concat (c ∷ a ∷ b ∷ e ∷ []) (int 4 ∷ int 1 ∷ int 2 ∷ int 1 ∷ []) (int 8 ∷ []) ∷ output_of (x ∷ []) ∷ [])
nested_join = refl

join_used_twice : pattern_at fold_nested_concat 1
    (operation concat (a ∷ b ∷ []) (int 2 ∷ int 2 ∷ []) (int 4 ∷ []) ∷ operation concat (x ∷ x ∷ []) (int 4 ∷ int 4 ∷ []) (int 8 ∷ []) ∷ output_of (y ∷ []) ∷ []) ≡ None
join_used_twice = refl

join_of_extract : pattern_at fold_nested_concat 1 (low_of_byte 3 a 4 ∷ operation concat (x ∷ b ∷ []) (int 4 ∷ int 4 ∷ []) (int 8 ∷ []) ∷ output_of (y ∷ []) ∷ []) ≡ None
join_of_extract = refl

join_of_itself : pattern_at fold_nested_concat 0 (operation concat (x ∷ []) bytes bytes ∷ output_of (a ∷ []) ∷ []) ≡ None
join_of_itself = refl
