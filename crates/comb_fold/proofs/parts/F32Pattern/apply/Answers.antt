use Rattle.std.proofs.Common.{ap, ◌∙◌}
use Rattle.std.specs.Prelude.{is_some}
use Rattle.fold_laws.specs.Standing.{by_stand}
use Rattle.fold_laws.specs.Table.{fold_made_part}
use Rattle.comb_fold.specs.Choices.{made_part}
use Rattle.body_edits.specs.Views.{body_ops, position_in}
use Rattle.comb_fold.proofs.FirstStands.{same_folded, made_part_pattern, made_part_in_fit}
use Rattle.comb_fold.proofs.parts.F32Pattern.apply.Goals as goal

pub stand_chosen-requires-clause-matches : goal.stand_chosen-requires-clause-matches
stand_chosen-requires-clause-matches c = ap is_some (made_part_pattern (body_ops c.args.body.now) (position_in c.args.body.now c.args.op)) ∙ c.requires.matches

pub stand_chosen-requires-clause-may : goal.stand_chosen-requires-clause-may
stand_chosen-requires-clause-may c = made_part_in_fit

pub returns-clause-folded : goal.returns-clause-folded
returns-clause-folded c =
    same_folded (by_stand made_part) fold_made_part made_part_pattern c.args.body.now c.stand_chosen.new.body (position_in c.args.body.now c.args.op) c.stand_chosen.ensures
