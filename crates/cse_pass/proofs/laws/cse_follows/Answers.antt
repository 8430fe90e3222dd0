use Rattle.cse_pass.proofs.Following.{changes_follow}
use Rattle.cse_pass.proofs.laws.cse_follows.Goals as goal

pub returns-clause-steady : goal.returns-clause-steady
returns-clause-steady c = λ d k m os fit at changes. (changes_follow d k m os fit at changes).steady

pub returns-clause-lighter : goal.returns-clause-lighter
returns-clause-lighter c = λ d k m os fit at changes. (changes_follow d k m os fit at changes).lighter
