use Rattle.canonicalise.proofs.Follows.{followed}
use Rattle.canonicalise.proofs.laws.folds_follow.Goals as goal

pub returns-clause-steady : goal.returns-clause-steady
returns-clause-steady c = λ d k m os fit at leads. (followed d k m os fit at leads).steady

pub returns-clause-lighter : goal.returns-clause-lighter
returns-clause-lighter c = λ d k m os fit at leads. (followed d k m os fit at leads).lighter
