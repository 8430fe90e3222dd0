use Rattle.std.proofs.Common.{sym, ◌∙◌}
use Rattle.cse_pass.proofs.MergedVisits.{found_at, merged_changes, merged_fit, merged_within, merged_at_with, merged_at_same, fit_same, same_changes}
use Rattle.cse_pass.proofs.merges.visit.Goals as goal

pub returns-in_err-merge-clause-fit : goal.returns-in_err-merge-clause-fit
returns-in_err-merge-clause-fit c = fit_same c.args.body.now c.merge.new.body c.requires.fit c.in_err-merge.ensures.kept

pub returns-in_err-merge-clause-changes : goal.returns-in_err-merge-clause-changes
returns-in_err-merge-clause-changes c = same_changes c.args.body.now c.merge.new.body c.in_err-merge.ensures.kept

pub groups_of_first-requires-clause-fit : goal.groups_of_first-requires-clause-fit
groups_of_first-requires-clause-fit c =
    merged_fit c.args.body.now c.merge.new.body c.requires.fit c.args.op c.in-Some.first c.args.position c.requires.position c.requires.live c.in-Some.ensures.equal c.in_ok-merge.ensures.merged

pub groups_of_first-requires-clause-within : goal.groups_of_first-requires-clause-within
groups_of_first-requires-clause-within c =
    merged_within c.args.body.now c.merge.new.body c.requires.fit c.args.op c.in-Some.first c.args.position c.requires.position c.requires.live c.in-Some.ensures.equal c.in_ok-merge.ensures.merged

pub returns-in_err-groups-clause-fit : goal.returns-in_err-groups-clause-fit
returns-in_err-groups-clause-fit c =
    merged_fit c.args.body.now c.merge.new.body c.requires.fit c.args.op c.in-Some.first c.args.position c.requires.position c.requires.live c.in-Some.ensures.equal c.in_ok-merge.ensures.merged

pub returns-in_err-groups-clause-changes : goal.returns-in_err-groups-clause-changes
returns-in_err-groups-clause-changes c =
    merged_changes c.args.body.now c.merge.new.body c.requires.fit c.args.op c.in-Some.first c.args.position c.requires.position c.requires.live c.in-Some.ensures.equal c.in_ok-merge.ensures.merged

pub returns-in_ok-groups-clause-fit : goal.returns-in_ok-groups-clause-fit
returns-in_ok-groups-clause-fit c =
    merged_fit c.args.body.now c.merge.new.body c.requires.fit c.args.op c.in-Some.first c.args.position c.requires.position c.requires.live c.in-Some.ensures.equal c.in_ok-merge.ensures.merged

pub returns-in_ok-groups-clause-visited : goal.returns-in_ok-groups-clause-visited
returns-in_ok-groups-clause-visited c =
    merged_at_with c.args.body.now c.merge.new.body c.requires.fit c.args.op c.in-Some.first c.args.position c.requires.position c.requires.live c.in-Some.ensures.equal c.in_ok-merge.ensures.merged
    c.in_ok-groups.field-0 c.in_ok-groups.ensures

pub returns-in_ok-groups-clause-changes : goal.returns-in_ok-groups-clause-changes
returns-in_ok-groups-clause-changes c =
    merged_changes c.args.body.now c.merge.new.body c.requires.fit c.args.op c.in-Some.first c.args.position c.requires.position c.requires.live c.in-Some.ensures.equal c.in_ok-merge.ensures.merged

pub returns-else-takes-clause-fit : goal.returns-else-takes-clause-fit
returns-else-takes-clause-fit c =
    merged_fit c.args.body.now c.merge.new.body c.requires.fit c.args.op c.in-Some.first c.args.position c.requires.position c.requires.live c.in-Some.ensures.equal c.in_ok-merge.ensures.merged

pub returns-else-takes-clause-visited : goal.returns-else-takes-clause-visited
returns-else-takes-clause-visited c =
    merged_at_same c.args.body.now c.merge.new.body c.requires.fit c.args.op c.in-Some.first c.args.position c.requires.position c.requires.live c.in-Some.ensures.equal c.in_ok-merge.ensures.merged
    c.args.groups.now c.requires.grouped (sym c.takes.ensures ∙ c.if-takes.false)

pub returns-else-takes-clause-changes : goal.returns-else-takes-clause-changes
returns-else-takes-clause-changes c =
    merged_changes c.args.body.now c.merge.new.body c.requires.fit c.args.op c.in-Some.first c.args.position c.requires.position c.requires.live c.in-Some.ensures.equal c.in_ok-merge.ensures.merged

pub merge-requires-clause-equal : goal.merge-requires-clause-equal
merge-requires-clause-equal c = found_at c.args.body.now c.args.op c.in-Some.first c.args.position c.requires.position c.in-Some.ensures.equal
