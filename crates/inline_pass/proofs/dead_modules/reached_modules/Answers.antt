use Rattle.std.proofs.Common.{subst}
use Rattle.std.proofs.lemmas.Result.{IfOk-weaker}
use Rattle.graphs.specs.Graphs.{lists_of, AreReached}
use Rattle.ir_store.specs.Designs.{design_of}
use Rattle.inline_pass.specs.Marks.{AreReachedMarks}
use Rattle.inline_pass.proofs.ReachedNumbers.{reached_marks}
use Rattle.inline_pass.proofs.dead_modules.reached_modules.Goals as goal

pub returns : goal.returns
returns c =
    IfOk-weaker c.reached_from.result (λ marks. AreReached (lists_of c.as_slice.result.now) c.as_slice-2.result.now marks.items) (λ marks. AreReachedMarks (design_of c.args.design.now) marks.items)
    (λ marks reached. reached_marks (design_of c.args.design.now) c.requires c.in_ok-starts.starts.items c.in_ok-starts.ensures marks.items
    (subst (λ lists. AreReached lists c.in_ok-starts.starts.items marks.items) c.in_ok-graph.ensures
    (subst (λ graph. AreReached (lists_of graph) c.in_ok-starts.starts.items marks.items) c.as_slice.ensures.value
    (subst (λ starts. AreReached (lists_of c.as_slice.result.now) starts marks.items) c.as_slice-2.ensures.value reached))))
    c.reached_from.ensures
