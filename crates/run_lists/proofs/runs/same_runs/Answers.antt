use Rattle.run_lists.proofs.RunLists.{told_by_numbers}
use Rattle.run_lists.proofs.runs.same_runs.Goals as goal

pub returns : goal.returns
returns c = told_by_numbers c.are_same.result c.as_slice.result.now c.as_slice-2.result.now c.args.first.now.runs.items c.args.second.now.runs.items c.as_slice.ensures.value c.as_slice-2.ensures.value c.requires.first c.requires.second c.are_same.ensures
