use Rattle.fold_laws.specs.Table.{patterns}
use Rattle.canonicalise.proofs.AllPatterns.{first_quiet, all_patterns_quiet}
use Rattle.canonicalise.proofs.reach_laws.patterns_stay_quiet.Goals as goal

pub returns : goal.returns
returns c = first_quiet patterns all_patterns_quiet
