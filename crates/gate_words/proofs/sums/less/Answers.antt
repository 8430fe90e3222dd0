use Rattle.std.proofs.Common.{◌≡◌, sym, subst, true}
use Rattle.gates.specs.declared.signal.Signal.TheVariants.{Fixed}
use Rattle.gates.specs.Circuits.{Runs}
use Rattle.gates.proofs.Running.{runs-done, runs_then}
use Rattle.gate_words.specs.GateLists.{carried, inverses, less}
use Rattle.gate_words.proofs.sums.less.Goals as goal

pub returns : goal.returns
unfolding less
returns c =
    let same : c.deref.result.now ≡ inverses c.args.ys.now = cc (c.deref.ensures.value, c.in_ok-inverted.ensures) in
    subst (λ r. Runs (less c.args.xs.now c.args.ys.now) c.args.gates.now c.carry_out.new.gates r) (sym c.inverse.ensures)
    (runs_then _ (subst (λ ss. Runs (carried c.args.xs.now ss (Fixed true)) c.args.gates.now c.carry_out.new.gates c.in_ok-enough.enough) same c.in_ok-enough.ensures) runs-done)
