use Rattle.std.proofs.Common.{refl}
use Rattle.run_lists.specs.Runs.{expanded, AreApart}
use Rattle.std.proofs.Common.{sym, subst}
use Rattle.run_lists.proofs.RunLists.{some_at, pushed_more}
use Rattle.run_lists.proofs.runs.push_list.Goals as goal

pub push_run-requires-clause-some : goal.push_run-requires-clause-some
push_run-requires-clause-some c =
    some_at c.deref-run-items.result.now (subst AreApart (sym c.deref-run-items.ensures.value) c.requires.more) c.loop-run.run-index c.loop-run-test.true (record { number = 0; count = 0 }) _ refl

pub loop-run-preserved : goal.loop-run-preserved
loop-run-preserved c = (
  pushed_more (expanded c.args.list.now.runs.items) (expanded c.loop-run.list.runs.items) (expanded c.push_run.new.list.runs.items) c.deref-run-items.result.now c.loop-run.run-index c.loop-run-test.true
      (record { number = 0; count = 0 }) _ refl c.loop-run.invariant.0 c.in_ok-push_run.ensures.numbers,
  c.in_ok-push_run.ensures.apart,
)
