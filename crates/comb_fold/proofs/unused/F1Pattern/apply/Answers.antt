use Rattle.body_edits.specs.Views.{body_ops, position_in}
use Rattle.body_edits.proofs.FitOps.{fit_live}
use Rattle.body_edits.proofs.UnusedPattern.{body_unused, pattern_matched, unused_folded}
use Rattle.comb_fold.proofs.unused.F1Pattern.apply.Goals as goal

pub erase-requires-clause-unused : goal.erase-requires-clause-unused
erase-requires-clause-unused c =
    body_unused c.args.body.now c.args.op (fit_live c.args.body.now c.requires.fit) c.requires.live
    (pattern_matched (body_ops c.args.body.now) (position_in c.args.body.now c.args.op) c.requires.matches).1

pub returns-clause-folded : goal.returns-clause-folded
returns-clause-folded c =
    unused_folded c.args.body.now c.erase.new.self c.args.op (fit_live c.args.body.now c.requires.fit) c.requires.live c.requires.matches c.erase.ensures.ops
