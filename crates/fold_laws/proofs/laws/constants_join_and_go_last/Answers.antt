use Rattle.fold_laws.specs.ConstantOperands.{constant_last}
use Rattle.fold_laws.proofs.ConstantLast.{constant_last_law}
use Rattle.fold_laws.proofs.FewerOperands.{operands_are_fold}
use Rattle.fold_laws.proofs.TwoConstants.{two_constants_are_fold}
use Rattle.fold_laws.proofs.laws.constants_join_and_go_last.Goals as goal

pub returns-clause-two_constants : goal.returns-clause-two_constants
returns-clause-two_constants c = two_constants_are_fold

pub returns-clause-constant_last : goal.returns-clause-constant_last
returns-clause-constant_last c = operands_are_fold constant_last constant_last_law
