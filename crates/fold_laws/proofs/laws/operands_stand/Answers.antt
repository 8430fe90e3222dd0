use Rattle.fold_laws.specs.Standing.{single_operand, absorbing_and, absorbing_or, absorbing_mul, sub_zero, shift_zero, div_one, mux_constant, mux_same, mux_bool, full_extract, trivial_concat, trivial_replicate, trivial_bitcast}
use Rattle.fold_laws.proofs.AnyOperands.{single_operand_stands, absorbing_and_stands, absorbing_or_stands, absorbing_mul_stands}
use Rattle.fold_laws.proofs.NeutralSecond.{sub_zero_stands, shift_zero_stands, div_one_stands}
use Rattle.fold_laws.proofs.Choices.{mux_constant_stands, mux_same_stands, mux_bool_stands}
use Rattle.fold_laws.proofs.WholeValues.{full_extract_stands, trivial_concat_stands, trivial_replicate_stands, trivial_bitcast_stands}
use Rattle.fold_laws.proofs.Stands.{stand_is_fold}
use Rattle.fold_laws.proofs.laws.operands_stand.Goals as goal

pub returns-clause-single_operand : goal.returns-clause-single_operand
returns-clause-single_operand c = stand_is_fold single_operand single_operand_stands

pub returns-clause-and_zero : goal.returns-clause-and_zero
returns-clause-and_zero c = stand_is_fold absorbing_and absorbing_and_stands

pub returns-clause-or_ones : goal.returns-clause-or_ones
returns-clause-or_ones c = stand_is_fold absorbing_or absorbing_or_stands

pub returns-clause-mul_zero : goal.returns-clause-mul_zero
returns-clause-mul_zero c = stand_is_fold absorbing_mul absorbing_mul_stands

pub returns-clause-sub_zero : goal.returns-clause-sub_zero
returns-clause-sub_zero c = stand_is_fold sub_zero sub_zero_stands

pub returns-clause-shift_zero : goal.returns-clause-shift_zero
returns-clause-shift_zero c = stand_is_fold shift_zero shift_zero_stands

pub returns-clause-div_one : goal.returns-clause-div_one
returns-clause-div_one c = stand_is_fold div_one div_one_stands

pub returns-clause-mux_constant : goal.returns-clause-mux_constant
returns-clause-mux_constant c = stand_is_fold mux_constant mux_constant_stands

pub returns-clause-mux_same : goal.returns-clause-mux_same
returns-clause-mux_same c = stand_is_fold mux_same mux_same_stands

pub returns-clause-mux_bool : goal.returns-clause-mux_bool
returns-clause-mux_bool c = stand_is_fold mux_bool mux_bool_stands

pub returns-clause-full_extract : goal.returns-clause-full_extract
returns-clause-full_extract c = stand_is_fold full_extract full_extract_stands

pub returns-clause-trivial_concat : goal.returns-clause-trivial_concat
returns-clause-trivial_concat c = stand_is_fold trivial_concat trivial_concat_stands

pub returns-clause-trivial_replicate : goal.returns-clause-trivial_replicate
returns-clause-trivial_replicate c = stand_is_fold trivial_replicate trivial_replicate_stands

pub returns-clause-trivial_bitcast : goal.returns-clause-trivial_bitcast
returns-clause-trivial_bitcast c = stand_is_fold trivial_bitcast trivial_bitcast_stands
