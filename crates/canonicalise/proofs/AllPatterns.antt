-- No pattern of the table matches at an operation that sees no more.
use Rattle.std.proofs.Common.{◌≡◌, List, [], ◌∷◌, Option, None, Some, drop, refl, ap, ◌∙◌}
use Rattle.stored_form.specs.Bytes.{Each}
use Rattle.fold_laws.specs.ConstantOperands.{constant_last}
use Rattle.fold_laws.specs.Edits.{Edit, FoldPattern}
use Rattle.fold_laws.specs.Evaluated.{value_of_constants}
use Rattle.fold_laws.specs.Fewer.{add_zero, or_zero, xor_zero, and_ones, mul_one, repeated_operand, xor_pair, fold_xor_pair}
use Rattle.fold_laws.specs.Numbers.{sub_self, xor_self, shift_out, rest_by_one, icmp_self, fold_xor_self}
use Rattle.fold_laws.specs.Parts.{struct_part, extract_part, array_part, fold_struct_part, fold_array_part}
use Rattle.fold_laws.specs.Standing.{single_operand, absorbing_and, absorbing_or, absorbing_mul, sub_zero, shift_zero, div_one, mux_constant, mux_same, mux_bool, full_extract, trivial_concat}
use Rattle.fold_laws.specs.Standing.{trivial_replicate, trivial_bitcast, fold_trivial_concat, fold_trivial_replicate, fold_trivial_bitcast}
use Rattle.fold_laws.specs.Table.{or_edits, first_pattern, patterns}
use Rattle.canonicalise.specs.Reach.{StaysQuiet}
use Rattle.canonicalise.proofs.OtherPatterns.{number_quiet, sub_self_alike, xor_self_alike, icmp_self_alike, shift_out_alike, rest_by_one_alike, value_alike, operands_quiet, add_zero_alike}
use Rattle.canonicalise.proofs.OtherPatterns.{or_zero_alike, xor_zero_alike, and_ones_alike, mul_one_alike, repeated_alike, xor_pair_alike, constant_last_alike, two_constants_quiet}
use Rattle.canonicalise.proofs.OtherPatterns.{nested_operand_quiet, nested_concat_quiet, extract_extract_quiet, unused_quiet}
use Rattle.canonicalise.proofs.StandPatterns.{stand_quiet, single_operand_alike, absorbing_and_alike, absorbing_or_alike, absorbing_mul_alike, sub_zero_alike, shift_zero_alike, div_one_alike}
use Rattle.canonicalise.proofs.StandPatterns.{mux_constant_alike, mux_same_alike, mux_bool_alike, full_extract_alike, trivial_concat_alike, trivial_replicate_alike, trivial_bitcast_alike}
use Rattle.canonicalise.proofs.StandPatterns.{struct_part_alike, extract_part_alike, array_part_alike}

abbrev AllQuiet : List FoldPattern → Type 0
AllQuiet rs = Each StaysQuiet rs

pub first_quiet : (rs : List FoldPattern) → AllQuiet rs → StaysQuiet (first_pattern rs)
first_quiet [] all os i os' i' s none = refl
first_quiet (pattern ∷ rs) all os i os' i' s none =
    let both = split (pattern os i) (first_pattern rs os i) none in
    ap (λ z. or_edits z (first_pattern rs os' i')) (all.0 os i os' i' s both.0) ∙ first_quiet rs all.1 os i os' i' s both.1
  where
    split : (a b : Option (List Edit)) → or_edits a b ≡ None → (a ≡ None) × (b ≡ None)
    split (Some es) b is = cc
    split None b is = (refl, is)

xor_equal : AllQuiet (fold_xor_pair ∷ fold_xor_self ∷ [])
xor_equal = (operands_quiet xor_pair xor_pair_alike, (number_quiet xor_self xor_self_alike, tt))

trivial : AllQuiet (fold_trivial_concat ∷ fold_trivial_replicate ∷ fold_trivial_bitcast ∷ [])
trivial = (stand_quiet trivial_concat trivial_concat_alike, (stand_quiet trivial_replicate trivial_replicate_alike, (stand_quiet trivial_bitcast trivial_bitcast_alike, tt)))

made_part : AllQuiet (fold_struct_part ∷ fold_array_part ∷ [])
made_part = (stand_quiet struct_part struct_part_alike, (stand_quiet array_part array_part_alike, tt))

-- ---- the patterns of the table from one on, the last ones first

parts : AllQuiet (drop 26 patterns)
parts = (
  stand_quiet full_extract full_extract_alike,
  (
    extract_extract_quiet,
    (
      stand_quiet extract_part extract_part_alike,
      (
        nested_concat_quiet,
        (first_quiet (fold_trivial_concat ∷ fold_trivial_replicate ∷ fold_trivial_bitcast ∷ []) trivial, (first_quiet (fold_struct_part ∷ fold_array_part ∷ []) made_part, tt)),
      ),
    ),
  ),
)

choices : AllQuiet (drop 23 patterns)
choices = (stand_quiet mux_constant mux_constant_alike, (stand_quiet mux_same mux_same_alike, (stand_quiet mux_bool mux_bool_alike, parts)))

quotients : AllQuiet (drop 19 patterns)
quotients = (number_quiet shift_out shift_out_alike, (stand_quiet div_one div_one_alike, (number_quiet rest_by_one rest_by_one_alike, (number_quiet icmp_self icmp_self_alike, choices))))

differences : AllQuiet (drop 16 patterns)
differences = (stand_quiet sub_zero sub_zero_alike, (number_quiet sub_self sub_self_alike, (stand_quiet shift_zero shift_zero_alike, quotients)))

operands : AllQuiet (drop 11 patterns)
operands = (
  operands_quiet repeated_operand repeated_alike,
  (first_quiet (fold_xor_pair ∷ fold_xor_self ∷ []) xor_equal, (two_constants_quiet, (operands_quiet constant_last constant_last_alike, (nested_operand_quiet, differences)))),
)

absorbing : AllQuiet (drop 8 patterns)
absorbing = (stand_quiet absorbing_and absorbing_and_alike, (stand_quiet absorbing_or absorbing_or_alike, (stand_quiet absorbing_mul absorbing_mul_alike, operands)))

neutral : AllQuiet (drop 3 patterns)
neutral = (
  operands_quiet add_zero add_zero_alike,
  (operands_quiet or_zero or_zero_alike, (operands_quiet xor_zero xor_zero_alike, (operands_quiet and_ones and_ones_alike, (operands_quiet mul_one mul_one_alike, absorbing)))),
)

pub all_patterns_quiet : AllQuiet patterns
all_patterns_quiet = (unused_quiet, (number_quiet value_of_constants value_alike, (stand_quiet single_operand single_operand_alike, neutral)))
