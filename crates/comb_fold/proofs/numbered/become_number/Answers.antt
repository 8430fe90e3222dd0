use Rattle.std.proofs.Common.{◌∙◌}
use Rattle.std.proofs.lemmas.Result.{on_ok_weaker}
use Rattle.body_edits.specs.Views.{position_in, op_seen}
use Rattle.body_edits.proofs.NumberOps.{number_at, pattern_alone, number_folded}
use Rattle.comb_fold.proofs.numbered.become_number.Goals as goal

pub put_number-requires-clause-alone : goal.put_number-requires-clause-alone
put_number-requires-clause-alone g c =
    pattern_alone c.args.body.now c.requires.fit g.N.Numbered.numbering g.met.N.Numbered.makes (position_in c.args.body.now c.args.op)
    (op_seen c.args.body.now c.at-site.result.op) c.at-site.ensures.there c.requires.matches

pub returns-clause-folded : goal.returns-clause-folded
returns-clause-folded g c =
    on_ok_weaker c.put_number.result
    (number_folded c.args.body.now c.put_number.new.body (position_in c.args.body.now c.args.op) (op_seen c.args.body.now c.at-site.result.op) c.in-Some.number
    g.N.Numbered.numbering c.at-site.ensures.there
    (λ t typed. c.in-Some.ensures t ∙ number_at c.args.body.now c.at-site.result c.at-site.ensures.body g.N.Numbered.numbering t))
    c.put_number.ensures.has
