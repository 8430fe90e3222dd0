use Rattle.std.proofs.Common.{ap, ◌∙◌}
use Rattle.std.specs.Prelude.{is_some}
use Rattle.body_edits.specs.Views.{body_ops, position_in}
use Rattle.comb_fold.proofs.FirstStands.{made_part_pattern}
use Rattle.comb_fold.proofs.parts.F32Pattern.matches.Goals as goal

pub returns : goal.returns
returns c = c.has_value.ensures ∙ ap is_some (made_part_pattern (body_ops c.args.body.now) (position_in c.args.body.now c.args.op))
