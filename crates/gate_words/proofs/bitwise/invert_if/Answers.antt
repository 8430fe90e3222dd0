use Rattle.std.proofs.Common.{◌≡◌, sym, ap, subst, ◌∙◌, List, length, replicate, IfOk}
use Rattle.gates.specs.declared.signal.Signal.{Signal}
use Rattle.gates.specs.Build.{Build, exclusive}
use Rattle.gates.specs.Circuits.{Runs}
use Rattle.gate_words.specs.GateLists.{each}
use Rattle.gate_words.proofs.bitwise.invert_if.Goals as goal
use Rattle.gate_words.proofs.Widths.{flipped_is_each}

pub returns : goal.returns
returns c =
    let same : c.deref.result.now ≡ replicate (length c.args.xs.now) c.args.condition = cc (c.deref.ensures.value, c.in_ok-conditions.ensures) in
    subst (λ (p : Build (List Signal)). IfOk c.each.result (λ zs. Runs p c.args.gates.now c.each.new.gates zs.items))
    (ap (λ ss. each exclusive ss c.args.xs.now) same ∙ sym (flipped_is_each c.args.condition c.args.xs.now)) c.each.ensures
