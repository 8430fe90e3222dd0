use Rattle.std.proofs.Common.{◌∙◌}
use Rattle.body_edits.specs.Views.{body_ops, position_in}
use Rattle.comb_fold.proofs.JoinPatterns.{extract_matches}
use Rattle.comb_fold.proofs.replaced_patterns.F28Pattern.matches.Goals as goal

pub returns : goal.returns
returns c = c.is_joined.ensures ∙ extract_matches (body_ops c.args.body.now) (position_in c.args.body.now c.args.op)
