use Rattle.std.proofs.Common.{sym, ◌∙◌}
use Rattle.name_legalise.proofs.Grouped.{first_begins, rest_begin, found_here, found_later}
use Rattle.name_legalise.proofs.reserved.is_grouped.Goals as goal

pub is_in_group-requires : goal.is_in_group-requires
is_in_group-requires c = record {
  grouped = first_begins c.args.groups.now c.loop-group.group-index _ c.loop-group-test.true c.loop-group.invariant.begin;
  begins = c.requires.begins;
}

pub returns-then-is_in_group : goal.returns-then-is_in_group
returns-then-is_in_group c =
    sym (c.loop-group.invariant.same ∙ found_here c.args.groups.now c.loop-group.group-index _ c.loop-group-test.true c.args.name.now c.if-is_in_group.ensures)

pub loop-group-preserved : goal.loop-group-preserved
loop-group-preserved c = record {
  same = c.loop-group.invariant.same ∙ found_later c.args.groups.now c.loop-group.group-index _ c.loop-group-test.true c.args.name.now c.if-is_in_group.ensures;
  begin = rest_begin c.args.groups.now c.loop-group.group-index c.loop-group.invariant.begin;
}
