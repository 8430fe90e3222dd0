use Rattle.seq_lower.proofs.Following.{lowering_keeps}
use Rattle.seq_lower.proofs.laws.lowering_follows.Goals as goal

pub returns-clause-steady : goal.returns-clause-steady
returns-clause-steady c = λ d k m os fit at leads. (lowering_keeps d k m os fit at leads).steady

pub returns-clause-lighter : goal.returns-clause-lighter
returns-clause-lighter c = λ d k m os fit at leads. (lowering_keeps d k m os fit at leads).lighter
