use Rattle.std.proofs.Common.{ap, ◌∙◌}
use Rattle.std.specs.Prelude.{is_some}
use Rattle.fold_laws.specs.Standing.{by_stand}
use Rattle.fold_laws.specs.Table.{fold_trivial}
use Rattle.comb_fold.specs.Choices.{trivial}
use Rattle.body_edits.specs.Views.{body_ops, position_in}
use Rattle.comb_fold.proofs.FirstStands.{same_folded, trivial_pattern, trivial_in_fit}
use Rattle.comb_fold.proofs.standing.F31Pattern.apply.Goals as goal

pub stand_chosen-requires-clause-matches : goal.stand_chosen-requires-clause-matches
stand_chosen-requires-clause-matches c = ap is_some (trivial_pattern (body_ops c.args.body.now) (position_in c.args.body.now c.args.op)) ∙ c.requires.matches

pub stand_chosen-requires-clause-may : goal.stand_chosen-requires-clause-may
stand_chosen-requires-clause-may c = trivial_in_fit

pub returns-clause-folded : goal.returns-clause-folded
returns-clause-folded c =
    same_folded (by_stand trivial) fold_trivial trivial_pattern c.args.body.now c.stand_chosen.new.body (position_in c.args.body.now c.args.op) c.stand_chosen.ensures
