-- Each pattern of the table makes folds.
use Rattle.std.proofs.Common.{[], ◌∷◌, drop}
use Rattle.fold_laws.specs.ConstantOperands.{constant_last}
use Rattle.fold_laws.specs.Edits.{fold_by}
use Rattle.fold_laws.specs.Evaluated.{value_of_constants}
use Rattle.fold_laws.specs.Fewer.{add_zero, or_zero, xor_zero, and_ones, mul_one, repeated_operand, xor_pair, fold_xor_pair}
use Rattle.fold_laws.specs.Fold.{FoldLaw}
use Rattle.fold_laws.specs.Numbers.{sub_self, xor_self, shift_out, rest_by_one, icmp_self, fold_xor_self}
use Rattle.fold_laws.specs.Parts.{struct_part, extract_part, array_part, fold_struct_part, fold_array_part}
use Rattle.fold_laws.specs.Standing.{single_operand, absorbing_and, absorbing_or, absorbing_mul, sub_zero, shift_zero, div_one, mux_constant, mux_same, mux_bool, full_extract, trivial_concat}
use Rattle.fold_laws.specs.Standing.{trivial_replicate, trivial_bitcast, fold_trivial_concat, fold_trivial_replicate, fold_trivial_bitcast}
use Rattle.fold_laws.specs.Table.{fold_xor_equal, fold_trivial, fold_made_part, patterns, AllFold}
use Rattle.fold_laws.proofs.AnyOperands.{single_operand_stands, absorbing_and_stands, absorbing_or_stands, absorbing_mul_stands}
use Rattle.fold_laws.proofs.ArrayParts.{array_part_law}
use Rattle.fold_laws.proofs.MakerOperands.{maker_operand_is_fold}
use Rattle.fold_laws.proofs.Choices.{mux_constant_stands, mux_same_stands, mux_bool_stands}
use Rattle.fold_laws.proofs.ConstantLast.{constant_last_law}
use Rattle.fold_laws.proofs.Evaluated.{evaluated_makes}
use Rattle.fold_laws.proofs.FewerOperands.{operands_are_fold, reduction_is_fold}
use Rattle.fold_laws.proofs.FewerPatterns.{add_zero_reduces, or_zero_reduces, xor_zero_reduces, and_ones_reduces, mul_one_reduces, repeated_reduces}
use Rattle.fold_laws.proofs.JoinedParts.{extract_part_law}
use Rattle.fold_laws.proofs.NestedConcats.{nested_concat_is_fold}
use Rattle.fold_laws.proofs.NestedExtracts.{extract_extract_is_fold}
use Rattle.fold_laws.proofs.NestedOperands.{nested_operand_is_fold}
use Rattle.fold_laws.proofs.NeutralSecond.{sub_zero_stands, shift_zero_stands, div_one_stands}
use Rattle.fold_laws.proofs.Numbered.{number_is_fold}
use Rattle.fold_laws.proofs.NumberPatterns.{sub_self_makes, xor_self_makes, shift_out_makes, rest_by_one_makes, icmp_self_makes}
use Rattle.fold_laws.proofs.Pairs.{xor_pair_reduces}
use Rattle.fold_laws.proofs.Parts.{struct_part_law}
use Rattle.fold_laws.proofs.Stands.{stand_is_fold}
use Rattle.fold_laws.proofs.Table.{first_pattern_folds}
use Rattle.fold_laws.proofs.TwoConstants.{two_constants_are_fold}
use Rattle.fold_laws.proofs.Unused.{unused_is_fold}
use Rattle.fold_laws.proofs.WholeValues.{full_extract_stands, trivial_concat_stands, trivial_replicate_stands, trivial_bitcast_stands}

xor_equal_is_fold : FoldLaw (fold_by fold_xor_equal)
xor_equal_is_fold =
    first_pattern_folds (fold_xor_pair ∷ fold_xor_self ∷ []) (reduction_is_fold xor_pair xor_pair_reduces, (number_is_fold xor_self xor_self_makes, tt))

trivial_is_fold : FoldLaw (fold_by fold_trivial)
trivial_is_fold =
    first_pattern_folds (fold_trivial_concat ∷ fold_trivial_replicate ∷ fold_trivial_bitcast ∷ [])
    (stand_is_fold trivial_concat trivial_concat_stands, (stand_is_fold trivial_replicate trivial_replicate_stands, (stand_is_fold trivial_bitcast trivial_bitcast_stands, tt)))

made_part_is_fold : FoldLaw (fold_by fold_made_part)
made_part_is_fold =
    first_pattern_folds (fold_struct_part ∷ fold_array_part ∷ []) (maker_operand_is_fold struct_part struct_part_law, (maker_operand_is_fold array_part array_part_law, tt))

-- ---- the patterns of the table from one on, the last ones first

parts_fold : AllFold (drop 26 patterns)
parts_fold = (
  stand_is_fold full_extract full_extract_stands,
  (extract_extract_is_fold, (maker_operand_is_fold extract_part extract_part_law, (nested_concat_is_fold, (trivial_is_fold, (made_part_is_fold, tt))))),
)

choices_fold : AllFold (drop 23 patterns)
choices_fold = (stand_is_fold mux_constant mux_constant_stands, (stand_is_fold mux_same mux_same_stands, (stand_is_fold mux_bool mux_bool_stands, parts_fold)))

quotients_fold : AllFold (drop 19 patterns)
quotients_fold = (number_is_fold shift_out shift_out_makes, (stand_is_fold div_one div_one_stands, (number_is_fold rest_by_one rest_by_one_makes, (number_is_fold icmp_self icmp_self_makes, choices_fold))))

differences_fold : AllFold (drop 16 patterns)
differences_fold = (stand_is_fold sub_zero sub_zero_stands, (number_is_fold sub_self sub_self_makes, (stand_is_fold shift_zero shift_zero_stands, quotients_fold)))

operands_fold : AllFold (drop 11 patterns)
operands_fold = (reduction_is_fold repeated_operand repeated_reduces, (xor_equal_is_fold, (two_constants_are_fold, (operands_are_fold constant_last constant_last_law, (nested_operand_is_fold, differences_fold)))))

absorbing_fold : AllFold (drop 8 patterns)
absorbing_fold = (stand_is_fold absorbing_and absorbing_and_stands, (stand_is_fold absorbing_or absorbing_or_stands, (stand_is_fold absorbing_mul absorbing_mul_stands, operands_fold)))

neutral_fold : AllFold (drop 3 patterns)
neutral_fold = (
  reduction_is_fold add_zero add_zero_reduces,
  (
    reduction_is_fold or_zero or_zero_reduces,
    (reduction_is_fold xor_zero xor_zero_reduces, (reduction_is_fold and_ones and_ones_reduces, (reduction_is_fold mul_one mul_one_reduces, absorbing_fold))),
  ),
)

pub all_patterns_fold : AllFold patterns
all_patterns_fold = (unused_is_fold, (number_is_fold value_of_constants evaluated_makes, (stand_is_fold single_operand single_operand_stands, neutral_fold)))
