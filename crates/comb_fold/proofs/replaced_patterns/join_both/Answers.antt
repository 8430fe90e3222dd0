use Rattle.std.proofs.lemmas.Result.{on_ok_weaker}
use Rattle.body_edits.specs.Nests.{nested_seen}
use Rattle.body_edits.specs.Views.{position_in}
use Rattle.comb_fold.proofs.JoinPatterns.{found_alone, join_folded}
use Rattle.comb_fold.proofs.replaced_patterns.join_both.Goals as goal

pub replace_both-requires-clause-alone : goal.replace_both-requires-clause-alone
replace_both-requires-clause-alone g c =
    found_alone c.args.body.now c.requires.fit c.kinds.result (position_in c.args.body.now c.args.op) (nested_seen c.args.body.now c.in-Some.nested) c.in-Some.ensures

pub returns-clause-folded : goal.returns-clause-folded
returns-clause-folded g c =
    on_ok_weaker c.replace_both.result
    (join_folded g.J.Joining.pattern c.args.body.now c.replace_both.new.body (position_in c.args.body.now c.args.op) (position_in c.args.body.now c.in-Some.nested.id) c.in_ok-new-in-Some.new
    c.in_ok-new-in-Some.ensures)
    c.replace_both.ensures.joined
