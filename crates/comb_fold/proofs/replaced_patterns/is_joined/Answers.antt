use Rattle.std.proofs.Common.{ap, ◌∙◌}
use Rattle.std.specs.Prelude.{is_some}
use Rattle.body_edits.specs.Nests.{kind_test, nested_seen}
use Rattle.body_edits.specs.Views.{body_ops, position_in}
use Rattle.comb_fold.specs.Merges.{nested_in}
use Rattle.comb_fold.proofs.JoinPatterns.{there_if}
use Rattle.comb_fold.proofs.replaced_patterns.is_joined.Goals as goal

pub returns : goal.returns
returns g c =
    c.is_some.ensures ∙ there_if (nested_seen c.args.body.now) c.nested_in.result _ c.nested_in.ensures
    ∙ ap (λ k. is_some (nested_in (kind_test k) (body_ops c.args.body.now) (position_in c.args.body.now c.args.op))) c.kinds.ensures
