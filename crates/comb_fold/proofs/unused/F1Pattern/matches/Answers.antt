use Rattle.std.proofs.Common.{sym, ◌∙◌}
use Rattle.body_edits.proofs.FitOps.{fit_live}
use Rattle.body_edits.proofs.UnusedPattern.{pure_test, other_test}
use Rattle.comb_fold.proofs.unused.F1Pattern.matches.Goals as goal

pub returns-then-is_pure : goal.returns-then-is_pure
returns-then-is_pure c =
    pure_test c.args.body.now c.args.op c.op.result c.is_unused.result (fit_live c.args.body.now c.requires.fit) c.requires.live c.op.ensures
    (sym c.is_pure.ensures ∙ c.if-is_pure.true) c.is_unused.ensures

pub returns-else-is_pure : goal.returns-else-is_pure
returns-else-is_pure c = c.if-is_pure.false ∙ other_test c.args.body.now c.args.op c.op.result c.op.ensures (sym c.is_pure.ensures ∙ c.if-is_pure.false)
