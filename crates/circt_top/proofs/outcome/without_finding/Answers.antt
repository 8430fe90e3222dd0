use Rattle.std.proofs.Common.{subst}
use Rattle.circt_top.specs.Outcome.{GivesText}
use Rattle.circt_top.proofs.Answers.{text_answers}
use Rattle.circt_top.proofs.Compared.{no_text}
use Rattle.circt_top.proofs.outcome.without_finding.Goals as goal

pub returns-in-Ok : goal.returns-in-Ok
returns-in-Ok c = λ work contents gives. text_answers work contents c.in-Ok.text (subst (λ t. GivesText work contents t) c.in-Ok.is gives)

pub returns-in-Err : goal.returns-in-Err
returns-in-Err c = λ work contents gives. no_text work contents c.in-Err.fail (subst (λ t. GivesText work contents t) c.in-Err.is gives)
