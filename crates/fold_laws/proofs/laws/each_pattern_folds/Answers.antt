use Rattle.fold_laws.specs.Table.{patterns}
use Rattle.fold_laws.proofs.AllPatterns.{all_patterns_fold}
use Rattle.fold_laws.proofs.Table.{first_pattern_folds}
use Rattle.fold_laws.proofs.laws.each_pattern_folds.Goals as goal

pub returns-clause-each : goal.returns-clause-each
returns-clause-each c = all_patterns_fold

pub returns-clause-first : goal.returns-clause-first
returns-clause-first c = first_pattern_folds patterns all_patterns_fold
