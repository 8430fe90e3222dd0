use Rattle.std.proofs.Common.{◌≡◌, map, drop, IsTrue}
use Rattle.verilog_model.specs.Checks.{contains_name}
use Rattle.name_legalise.specs.Words.{groups_begin, words_in}
use Rattle.name_legalise.specs.WordViews.{letter_group}
use Rattle.name_legalise.proofs.reserved.is_grouped.Given as goal

abbrev pub invariant-loop-group : goal.invariant-loop-group
invariant-loop-group l = record {
  same : contains_name l.name (words_in (map letter_group l.groups)) ≡ contains_name l.name (words_in (map letter_group (drop l.group-index l.groups)));
  begin : IsTrue (groups_begin (map letter_group (drop l.group-index l.groups)));
}
