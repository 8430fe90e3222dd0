-- What is known of the edits of each pattern of the table.
use Rattle.std.proofs.Common.{◌≡◌, List, [], ◌∷◌, Option, None, Some, drop, refl, ◌∙◌}
use Rattle.stored_form.specs.Bytes.{Each}
use Rattle.fold_laws.specs.ConstantOperands.{constant_last}
use Rattle.fold_laws.specs.Edits.{Edit, FoldPattern}
use Rattle.fold_laws.specs.Evaluated.{value_of_constants}
use Rattle.fold_laws.specs.Fewer.{add_zero, or_zero, xor_zero, and_ones, mul_one, repeated_operand, xor_pair, fold_xor_pair}
use Rattle.fold_laws.specs.Numbers.{Numbering, by_number, sub_self, xor_self, shift_out, rest_by_one, icmp_self, fold_xor_self}
use Rattle.fold_laws.specs.Parts.{struct_part, extract_part, array_part, fold_struct_part, fold_array_part}
use Rattle.fold_laws.specs.Standing.{Stand, by_stand, single_operand, absorbing_and, absorbing_or, absorbing_mul, sub_zero, shift_zero, div_one, mux_constant, mux_same, mux_bool, full_extract}
use Rattle.fold_laws.specs.Standing.{trivial_concat, trivial_replicate, trivial_bitcast, fold_trivial_concat, fold_trivial_replicate, fold_trivial_bitcast}
use Rattle.fold_laws.specs.Table.{or_edits, first_pattern, patterns}
use Rattle.fold_laws.proofs.AnyOperands.{single_operand_stands, absorbing_and_stands, absorbing_or_stands, absorbing_mul_stands}
use Rattle.fold_laws.proofs.ArrayParts.{array_part_law}
use Rattle.fold_laws.proofs.Choices.{mux_constant_stands, mux_same_stands, mux_bool_stands}
use Rattle.fold_laws.proofs.Evaluated.{evaluated_makes}
use Rattle.fold_laws.proofs.JoinedParts.{extract_part_law}
use Rattle.fold_laws.proofs.MakerOperands.{IsMakerOperand}
use Rattle.fold_laws.proofs.NeutralSecond.{sub_zero_stands, shift_zero_stands, div_one_stands}
use Rattle.fold_laws.proofs.Numbered.{IsNumbering}
use Rattle.fold_laws.proofs.NumberPatterns.{sub_self_makes, xor_self_makes, shift_out_makes, rest_by_one_makes, icmp_self_makes}
use Rattle.fold_laws.proofs.Parts.{struct_part_law}
use Rattle.fold_laws.proofs.Stands.{IsStand}
use Rattle.fold_laws.proofs.WholeValues.{full_extract_stands, trivial_concat_stands, trivial_replicate_stands, trivial_bitcast_stands}
use Rattle.canonicalise.proofs.PatternEdits.{IsShown, ShowsEdits, stand_shown, number_shown, operands_shown, two_constants_shown, nested_operand_shown, nested_concat_shown, extract_extract_shown, unused_shown}

abbrev AllShow : List FoldPattern → Type 0
AllShow rs = Each ShowsEdits rs

first_shown : (rs : List FoldPattern) → AllShow rs → ShowsEdits (first_pattern rs)
first_shown [] all os i es is = cc
first_shown (pattern ∷ rs) all os i es is = go (pattern os i) refl is (first_shown rs all.1 os i es)
  where
    go : (x : Option (List Edit)) → pattern os i ≡ x → or_edits x (first_pattern rs os i) ≡ Some es → (first_pattern rs os i ≡ Some es → IsShown os i es) → IsShown os i es
    go (Some fs) matches made later = all.0 os i es (matches ∙ made)
    go None matches made later = later made

stands : (stand : Stand) → IsStand stand → ShowsEdits (by_stand stand)
stands stand is = stand_shown stand is.made

makers : (stand : Stand) → IsMakerOperand stand → ShowsEdits (by_stand stand)
makers stand is = stand_shown stand is.made

numbers : (numbering : Numbering) → IsNumbering numbering → ShowsEdits (by_number numbering)
numbers numbering is = number_shown numbering is.made

xor_equal : AllShow (fold_xor_pair ∷ fold_xor_self ∷ [])
xor_equal = (operands_shown xor_pair, (numbers xor_self xor_self_makes, tt))

trivial : AllShow (fold_trivial_concat ∷ fold_trivial_replicate ∷ fold_trivial_bitcast ∷ [])
trivial = (stands trivial_concat trivial_concat_stands, (stands trivial_replicate trivial_replicate_stands, (stands trivial_bitcast trivial_bitcast_stands, tt)))

made_part : AllShow (fold_struct_part ∷ fold_array_part ∷ [])
made_part = (makers struct_part struct_part_law, (makers array_part array_part_law, tt))

-- ---- the patterns of the table from one on, the last ones first

parts : AllShow (drop 26 patterns)
parts = (
  stands full_extract full_extract_stands,
  (
    extract_extract_shown,
    (
      makers extract_part extract_part_law,
      (
        nested_concat_shown,
        (first_shown (fold_trivial_concat ∷ fold_trivial_replicate ∷ fold_trivial_bitcast ∷ []) trivial, (first_shown (fold_struct_part ∷ fold_array_part ∷ []) made_part, tt)),
      ),
    ),
  ),
)

choices : AllShow (drop 23 patterns)
choices = (stands mux_constant mux_constant_stands, (stands mux_same mux_same_stands, (stands mux_bool mux_bool_stands, parts)))

quotients : AllShow (drop 19 patterns)
quotients = (numbers shift_out shift_out_makes, (stands div_one div_one_stands, (numbers rest_by_one rest_by_one_makes, (numbers icmp_self icmp_self_makes, choices))))

differences : AllShow (drop 16 patterns)
differences = (stands sub_zero sub_zero_stands, (numbers sub_self sub_self_makes, (stands shift_zero shift_zero_stands, quotients)))

operands : AllShow (drop 11 patterns)
operands = (
  operands_shown repeated_operand,
  (first_shown (fold_xor_pair ∷ fold_xor_self ∷ []) xor_equal, (two_constants_shown, (operands_shown constant_last, (nested_operand_shown, differences)))),
)

absorbing : AllShow (drop 8 patterns)
absorbing = (stands absorbing_and absorbing_and_stands, (stands absorbing_or absorbing_or_stands, (stands absorbing_mul absorbing_mul_stands, operands)))

neutral : AllShow (drop 3 patterns)
neutral = (operands_shown add_zero, (operands_shown or_zero, (operands_shown xor_zero, (operands_shown and_ones, (operands_shown mul_one, absorbing)))))

all_show : AllShow patterns
all_show = (unused_shown, (numbers value_of_constants evaluated_makes, (stands single_operand single_operand_stands, neutral)))

-- so are those of the first pattern that matches
pub table_shown : ShowsEdits (first_pattern patterns)
table_shown = first_shown patterns all_show
