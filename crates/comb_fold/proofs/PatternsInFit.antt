-- The values of the patterns by which a value stands for the result may stand in a fit design.
use Rattle.fold_laws.specs.Parts.{extract_part}
use Rattle.fold_laws.specs.Standing.{single_operand, absorbing_and, absorbing_or, absorbing_mul, sub_zero, shift_zero, div_one, mux_constant, mux_same, mux_bool, full_extract}
use Rattle.fold_laws.proofs.AnyOperands.{single_operand_stands, absorbing_and_stands, absorbing_or_stands, absorbing_mul_stands}
use Rattle.fold_laws.proofs.Choices.{mux_constant_stands, mux_same_stands, mux_bool_stands}
use Rattle.fold_laws.proofs.JoinedParts.{extract_part_law}
use Rattle.fold_laws.proofs.NeutralSecond.{sub_zero_stands, shift_zero_stands, div_one_stands}
use Rattle.fold_laws.proofs.WholeValues.{full_extract_stands}
use Rattle.comb_fold.specs.Patterns.{StandsInFit}
use Rattle.comb_fold.proofs.FitPatterns.{stands_in_fit, maker_operand_in_fit}

pub single_operand_in_fit : StandsInFit single_operand
single_operand_in_fit = stands_in_fit single_operand single_operand_stands

pub absorbing_and_in_fit : StandsInFit absorbing_and
absorbing_and_in_fit = stands_in_fit absorbing_and absorbing_and_stands

pub absorbing_or_in_fit : StandsInFit absorbing_or
absorbing_or_in_fit = stands_in_fit absorbing_or absorbing_or_stands

pub absorbing_mul_in_fit : StandsInFit absorbing_mul
absorbing_mul_in_fit = stands_in_fit absorbing_mul absorbing_mul_stands

pub sub_zero_in_fit : StandsInFit sub_zero
sub_zero_in_fit = stands_in_fit sub_zero sub_zero_stands

pub shift_zero_in_fit : StandsInFit shift_zero
shift_zero_in_fit = stands_in_fit shift_zero shift_zero_stands

pub div_one_in_fit : StandsInFit div_one
div_one_in_fit = stands_in_fit div_one div_one_stands

pub mux_constant_in_fit : StandsInFit mux_constant
mux_constant_in_fit = stands_in_fit mux_constant mux_constant_stands

pub mux_same_in_fit : StandsInFit mux_same
mux_same_in_fit = stands_in_fit mux_same mux_same_stands

pub mux_bool_in_fit : StandsInFit mux_bool
mux_bool_in_fit = stands_in_fit mux_bool mux_bool_stands

pub full_extract_in_fit : StandsInFit full_extract
full_extract_in_fit = stands_in_fit full_extract full_extract_stands

pub extract_part_in_fit : StandsInFit extract_part
extract_part_in_fit = maker_operand_in_fit extract_part extract_part_law
