use Rattle.std.proofs.Common.{sym, ◌∙◌}
use Rattle.name_legalise.specs.WordViews.{letter_group}
use Rattle.name_legalise.proofs.Grouped.{not_equal, other_letter}
use Rattle.name_legalise.proofs.reserved.is_in_group.Goals as goal

pub returns-else-group-first : goal.returns-else-group-first
returns-else-group-first c =
    let group = letter_group c.args.group.now in
    not_equal group.letter c.args.first c.if-group-first.false
    ∙ sym (other_letter c.args.first group.letter c.args.name.now group.words c.requires.begins c.requires.grouped c.if-group-first.false)
