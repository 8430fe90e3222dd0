-- The table of patterns, in the order in which they are tried (CIRCT, Comb and HW dialects: folds and canonicalization of their
-- operations).
use Rattle.std.specs.Prelude.{List, [], ◌∷◌, Option, Some, None}
use Rattle.stored_form.specs.Bytes.{Each}
use Rattle.fold_laws.specs.ConstantOperands.{fold_two_constants, fold_constant_last}
use Rattle.fold_laws.specs.Edits.{Edit, FoldPattern, fold_by}
use Rattle.fold_laws.specs.Evaluated.{fold_evaluated}
use Rattle.fold_laws.specs.Fewer.{fold_add_zero, fold_or_zero, fold_xor_zero, fold_and_ones, fold_mul_one, fold_repeated, fold_xor_pair}
use Rattle.fold_laws.specs.Fold.{FoldLaw}
use Rattle.fold_laws.specs.Nested.{fold_nested_operand, fold_extract_extract, fold_nested_concat}
use Rattle.fold_laws.specs.Numbers.{fold_sub_self, fold_xor_self, fold_shift_out, fold_mod_one, fold_icmp_self}
use Rattle.fold_laws.specs.Parts.{fold_struct_part, fold_extract_part, fold_array_part}
use Rattle.fold_laws.specs.Standing.{fold_single_operand, fold_and_zero, fold_or_ones, fold_mul_zero, fold_sub_zero, fold_shift_zero, fold_div_one, fold_mux_constant, fold_mux_same, fold_mux_bool}
use Rattle.fold_laws.specs.Standing.{fold_full_extract, fold_trivial_concat, fold_trivial_replicate, fold_trivial_bitcast}
use Rattle.fold_laws.specs.Unused.{fold_unused}

-- ---- the first pattern that matches

-- the first edits, or else the second ones
abbrev pub or_edits : Option (List Edit) → Option (List Edit) → Option (List Edit)
or_edits (Some es) others = Some es
or_edits None others = others

-- the pattern that does what the first one of a list does that matches
abbrev pub first_pattern : List FoldPattern → FoldPattern
first_pattern [] os i = None
first_pattern (pattern ∷ patterns) os i = or_edits (pattern os i) (first_pattern patterns os i)

-- ---- patterns of more than one case

-- two equal operands of xor: both are dropped where others are left, else 0 stands there
abbrev pub fold_xor_equal : FoldPattern
fold_xor_equal = first_pattern (fold_xor_pair ∷ fold_xor_self ∷ [])

-- concat, replicate, bitcast that are their operand
abbrev pub fold_trivial : FoldPattern
fold_trivial = first_pattern (fold_trivial_concat ∷ fold_trivial_replicate ∷ fold_trivial_bitcast ∷ [])

-- a field or an element of what was made of fields or elements
abbrev pub fold_made_part : FoldPattern
fold_made_part = first_pattern (fold_struct_part ∷ fold_array_part ∷ [])

-- ---- the table

-- the patterns, the first to be tried first
abbrev pub patterns : List FoldPattern
patterns =
    fold_unused ∷ fold_evaluated ∷ fold_single_operand
    ∷ fold_add_zero ∷ fold_or_zero ∷ fold_xor_zero ∷ fold_and_ones ∷ fold_mul_one
    ∷ fold_and_zero ∷ fold_or_ones ∷ fold_mul_zero
    ∷ fold_repeated ∷ fold_xor_equal ∷ fold_two_constants ∷ fold_constant_last ∷ fold_nested_operand
    ∷ fold_sub_zero ∷ fold_sub_self ∷ fold_shift_zero ∷ fold_shift_out ∷ fold_div_one ∷ fold_mod_one ∷ fold_icmp_self
    ∷ fold_mux_constant ∷ fold_mux_same ∷ fold_mux_bool
    ∷ fold_full_extract ∷ fold_extract_extract ∷ fold_extract_part ∷ fold_nested_concat ∷ fold_trivial ∷ fold_made_part ∷ []

-- each of some patterns makes folds
abbrev pub AllFold : List FoldPattern → Type 0
AllFold rs = Each (λ (pattern : FoldPattern). FoldLaw (fold_by pattern)) rs
