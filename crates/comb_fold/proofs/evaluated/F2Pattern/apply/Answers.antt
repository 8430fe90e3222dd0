use Rattle.std.proofs.Common.{◌∙◌}
use Rattle.std.proofs.lemmas.Result.{on_ok_weaker}
use Rattle.fold_laws.specs.Evaluated.{value_of_constants}
use Rattle.fold_laws.proofs.Evaluated.{evaluated_makes}
use Rattle.body_edits.specs.Views.{position_in, op_seen}
use Rattle.comb_fold.proofs.EvaluatedOps.{site_evaluable}
use Rattle.body_edits.proofs.NumberOps.{number_at, pattern_alone, number_folded}
use Rattle.comb_fold.proofs.evaluated.F2Pattern.apply.Goals as goal

pub value_of_constants-requires-clause-evaluable : goal.value_of_constants-requires-clause-evaluable
value_of_constants-requires-clause-evaluable c =
    site_evaluable c.args.body.now c.at.result c.requires.fit c.at.ensures.body (position_in c.args.body.now c.args.op) c.at.ensures.there c.requires.matches

pub put_number-requires-clause-alone : goal.put_number-requires-clause-alone
put_number-requires-clause-alone c =
    pattern_alone c.args.body.now c.requires.fit value_of_constants evaluated_makes (position_in c.args.body.now c.args.op) (op_seen c.args.body.now c.at.result.op)
    c.at.ensures.there c.requires.matches

pub returns-clause-folded : goal.returns-clause-folded
returns-clause-folded c =
    on_ok_weaker c.put_number.result
    (number_folded c.args.body.now c.put_number.new.body (position_in c.args.body.now c.args.op) (op_seen c.args.body.now c.at.result.op) c.in_ok-number.number
    value_of_constants c.at.ensures.there
    (λ t typed. c.in_ok-number.ensures t typed ∙ number_at c.args.body.now c.at.result c.at.ensures.body value_of_constants t))
    c.put_number.ensures.has
