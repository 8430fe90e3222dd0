use Rattle.std.proofs.Common.{◌≡◌, subst, List, IfOk, Vec, Global}
use Rattle.gates.specs.declared.signal.Signal.{Signal}
use Rattle.gates.specs.Circuits.{Runs}
use Rattle.gate_words.specs.GateLists.{quotient, masked}
use Rattle.gate_words.proofs.divisions.quotient.Goals as goal
use Rattle.gate_words.proofs.Widths.{runs_last_by}

pub returns : goal.returns
unfolding quotient
returns c =
    let same : c.deref.result.now ≡ c.in_ok-bits.bits.items = c.deref.ensures.value in
    let view : Vec Signal Global → List Signal = λ v. v.items in
    runs_last_by _ _ view c.mask.result c.in_ok-bits.ensures (runs_last_by _ _ view c.mask.result c.in_ok-some.ensures
    (subst (λ ss. IfOk c.mask.result (λ v. Runs (masked c.in_ok-some.some ss) c.reduce.new.gates c.mask.new.gates v.items)) same c.mask.ensures))
