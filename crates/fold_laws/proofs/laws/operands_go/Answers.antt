use Rattle.fold_laws.specs.Fewer.{add_zero, or_zero, xor_zero, and_ones, mul_one, repeated_operand, xor_pair}
use Rattle.fold_laws.proofs.FewerOperands.{reduction_is_fold}
use Rattle.fold_laws.proofs.FewerPatterns.{add_zero_reduces, or_zero_reduces, xor_zero_reduces, and_ones_reduces, mul_one_reduces, repeated_reduces}
use Rattle.fold_laws.proofs.Pairs.{xor_pair_reduces}
use Rattle.fold_laws.proofs.laws.operands_go.Goals as goal

pub returns-clause-add_zero : goal.returns-clause-add_zero
returns-clause-add_zero c = reduction_is_fold add_zero add_zero_reduces

pub returns-clause-or_zero : goal.returns-clause-or_zero
returns-clause-or_zero c = reduction_is_fold or_zero or_zero_reduces

pub returns-clause-xor_zero : goal.returns-clause-xor_zero
returns-clause-xor_zero c = reduction_is_fold xor_zero xor_zero_reduces

pub returns-clause-and_ones : goal.returns-clause-and_ones
returns-clause-and_ones c = reduction_is_fold and_ones and_ones_reduces

pub returns-clause-mul_one : goal.returns-clause-mul_one
returns-clause-mul_one c = reduction_is_fold mul_one mul_one_reduces

pub returns-clause-repeated_operand : goal.returns-clause-repeated_operand
returns-clause-repeated_operand c = reduction_is_fold repeated_operand repeated_reduces

pub returns-clause-xor_pair : goal.returns-clause-xor_pair
returns-clause-xor_pair c = reduction_is_fold xor_pair xor_pair_reduces
