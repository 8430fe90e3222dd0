use Rattle.std.proofs.Common.{◌≡◌, subst, IfOk}
use Rattle.gates.specs.Circuits.{Runs}
use Rattle.gates.proofs.Running.{runs_last}
use Rattle.gate_words.specs.GateLists.{any, unlike}
use Rattle.gate_words.proofs.bitwise.unlike.Goals as goal

pub returns : goal.returns
unfolding unlike
returns c =
    let same : c.deref.result.now ≡ c.in_ok-bits.bits.items = cc (c.deref.ensures.value) in
    runs_last _ _ _ c.in_ok-bits.ensures
    (subst (λ ss. IfOk c.reduce.result (Runs (any ss) c.each.new.gates c.reduce.new.gates)) same c.reduce.ensures)
