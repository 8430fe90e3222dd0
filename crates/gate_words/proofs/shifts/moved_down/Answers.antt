use Rattle.std.proofs.Common.{sym, ◌∙◌, ap₂, ◌++◌}
use Rattle.gate_words.proofs.shifts.moved_down.Goals as goal
use Rattle.gate_words.proofs.Stages.{moved_down_within}

pub returns : goal.returns
returns c =
    c.in_ok-extend_from_slice.ensures.items ∙ ap₂ (λ a b. a ++ b) c.in_ok-made.ensures c.split_at.ensures.front
    ∙ sym (moved_down_within c.args.signal c.args.xs.now c.args.distance c.requires)
