use Rattle.fold_laws.specs.Evaluated.{value_of_constants}
use Rattle.fold_laws.specs.Numbers.{sub_self, xor_self, shift_out, rest_by_one, icmp_self}
use Rattle.fold_laws.proofs.Evaluated.{evaluated_makes}
use Rattle.fold_laws.proofs.Numbered.{number_is_fold}
use Rattle.fold_laws.proofs.NumberPatterns.{sub_self_makes, xor_self_makes, shift_out_makes, rest_by_one_makes, icmp_self_makes}
use Rattle.fold_laws.proofs.laws.operations_become_constants.Goals as goal

pub returns-clause-value_of_constants : goal.returns-clause-value_of_constants
returns-clause-value_of_constants c = number_is_fold value_of_constants evaluated_makes

pub returns-clause-sub_self : goal.returns-clause-sub_self
returns-clause-sub_self c = number_is_fold sub_self sub_self_makes

pub returns-clause-xor_self : goal.returns-clause-xor_self
returns-clause-xor_self c = number_is_fold xor_self xor_self_makes

pub returns-clause-shift_out : goal.returns-clause-shift_out
returns-clause-shift_out c = number_is_fold shift_out shift_out_makes

pub returns-clause-mod_one : goal.returns-clause-mod_one
returns-clause-mod_one c = number_is_fold rest_by_one rest_by_one_makes

pub returns-clause-icmp_self : goal.returns-clause-icmp_self
returns-clause-icmp_self c = number_is_fold icmp_self icmp_self_makes
