use Rattle.run_lists.specs.Runs.{expanded}
use Rattle.run_lists.proofs.RunLists.{copied_more}
use Rattle.run_lists.proofs.runs.all_copies.Goals as goal

pub loop-preserved : goal.loop-preserved
loop-preserved c = (
  copied_more (expanded c.args.one.now.runs.items) (expanded c.loop.list.runs.items) (expanded c.push_list.new.list.runs.items) c.loop.counter c.loop.invariant.0 c.in_ok-push_list.ensures.numbers,
  c.in_ok-push_list.ensures.apart,
)
