-- Folds by which an operation becomes a constant (CIRCT, Comb dialect: folds of its operations).
use Rattle.std.specs.Prelude.{ℕ, pos, Bool, true, false, cond, List, [], ◌∷◌, Option, Some, None, slice_get, option_and_then, option_map}
use Rattle.bits_core.specs.Word.{bit}
use Rattle.hw_model.specs.Types.{HwType}
use Rattle.hw_model.specs.Kinds.{Kind, Predicate}
use Rattle.hw_model.specs.Kinds.Predicate.{eq, ne, slt, sle, sgt, sge, ult, ule, ugt, uge, ceq, cne, weq, wne}
use Rattle.hw_model.specs.Kinds.Division.{modu, mods}
use Rattle.hw_model.specs.Kinds.Shift.{shl, shru}
use Rattle.hw_model.specs.Kinds.Variadic.{xor}
use Rattle.hw_model.specs.Kinds.Kind.{variadic, sub, division, shift, icmp, constant}
use Rattle.hw_model.specs.Design.{Location, Ref, Op, result_type}
use Rattle.ir_store.specs.Positions.{same_ref}
use Rattle.fold_laws.specs.Constants.{is_constant_where, is_one, shifts_out}
use Rattle.fold_laws.specs.Edits.{Edit, FoldPattern}
use Rattle.fold_laws.specs.Edits.Edit.{replaced}

-- ---- constants that stand in the place of operations

-- the hw.constant of a number and a type, at a location of the text, without a dictionary
abbrev pub number_op : ℕ → HwType → Location → Op
number_op n t location = record {
  kind = constant (pos n);
  operands = [];
  types = t ∷ [];
  results = record { type = t; again = false } ∷ [];
  named = 1;
  name = [];
  dictionary = [];
  bin = false;
  location = location;
}

-- the number that a constant in the place of an operation has, by its kind, the types that it writes, the type of its
-- result and its operands; None where it does not become one
abbrev pub Numbering : Type 0
Numbering = List Op → Kind → List HwType → HwType → List Ref → Option ℕ

-- the operation o with a result of type t becomes the constant
abbrev pub with_number : Numbering → List Op → ℕ → Op → HwType → Option (List Edit)
with_number numbering os i o t = option_map (λ (n : ℕ). replaced i (number_op n t o.location) ∷ []) (numbering os o.kind o.types t o.operands)

-- the pattern by which it does
abbrev pub by_number : Numbering → FoldPattern
by_number numbering os i = option_and_then (λ (o : Op). option_and_then (with_number numbering os i o) (result_type o 0)) (slice_get os i)

-- ---- operands

-- a number where a test of two operands is met
abbrev pub number_where : (Ref → Ref → Bool) → ℕ → List Ref → Option ℕ
number_where test n (x ∷ y ∷ []) = cond (test x y) (Some n) None
number_where test n _ = None

-- ---- the operations

-- the difference of a value and itself is 0
abbrev pub sub_self : Numbering
sub_self os sub ts t rs = number_where same_ref 0 rs
sub_self os _ ts t rs = None

-- the exclusive or of a value and itself is 0
abbrev pub xor_self : Numbering
xor_self os (variadic xor) ts t rs = number_where same_ref 0 rs
xor_self os _ ts t rs = None

-- what is shifted by its width or more is 0, where the sign does not stay
abbrev pub shift_out : Numbering
shift_out os (shift shl) ts t rs = number_where (λ x y. is_constant_where shifts_out os y) 0 rs
shift_out os (shift shru) ts t rs = number_where (λ x y. is_constant_where shifts_out os y) 0 rs
shift_out os _ ts t rs = None

-- the rest of a quotient by 1 is 0
abbrev pub rest_by_one : Numbering
rest_by_one os (division modu) ts t rs = number_where (λ x y. is_constant_where is_one os y) 0 rs
rest_by_one os (division mods) ts t rs = number_where (λ x y. is_constant_where is_one os y) 0 rs
rest_by_one os _ ts t rs = None

-- whether a predicate holds of a value and itself
abbrev pub holds_of_equals : Predicate → Bool
holds_of_equals eq = true
holds_of_equals ne = false
holds_of_equals slt = false
holds_of_equals sle = true
holds_of_equals sgt = false
holds_of_equals sge = true
holds_of_equals ult = false
holds_of_equals ule = true
holds_of_equals ugt = false
holds_of_equals uge = true
holds_of_equals ceq = true
holds_of_equals cne = false
holds_of_equals weq = true
holds_of_equals wne = false

-- a value compared with itself
abbrev pub icmp_self : Numbering
icmp_self os (icmp p) ts t rs = number_where same_ref (bit (holds_of_equals p)) rs
icmp_self os _ ts t rs = None

-- ---- the patterns

-- sub x, x becomes 0
abbrev pub fold_sub_self : FoldPattern
fold_sub_self = by_number sub_self

-- xor x, x becomes 0
abbrev pub fold_xor_self : FoldPattern
fold_xor_self = by_number xor_self

-- shl, shru by a constant of the width or more becomes 0
abbrev pub fold_shift_out : FoldPattern
fold_shift_out = by_number shift_out

-- modu, mods by 1 becomes 0
abbrev pub fold_mod_one : FoldPattern
fold_mod_one = by_number rest_by_one

-- icmp x, x becomes true for eq, ceq, weq, sle, sge, ule, uge, false for other predicates
abbrev pub fold_icmp_self : FoldPattern
fold_icmp_self = by_number icmp_self
