use Rattle.std.proofs.Common.{◌≡◌, sym, ◌∙◌, ap₂, ◌++◌, replicate, drop, false}
use Rattle.gates.specs.declared.signal.Signal.TheVariants.{Fixed}
use Rattle.gate_words.proofs.shifts.moved_up.Goals as goal
use Rattle.gate_words.proofs.Stages.{moved_up_within}

pub returns : goal.returns
returns c =
    let zeros : c.deref.result.now ≡ replicate c.args.distance (Fixed false) = c.deref.ensures.value ∙ c.in_ok-zeros.ensures in
    let low : c.in_ok-made.made.items ≡ drop c.args.distance c.args.xs.now = c.in_ok-made.ensures.items ∙ c.split_at.ensures.back in
    c.in_ok-extend_from_slice.ensures.items ∙ ap₂ (λ a b. a ++ b) low zeros ∙ sym (moved_up_within c.args.xs.now c.args.distance c.requires)
