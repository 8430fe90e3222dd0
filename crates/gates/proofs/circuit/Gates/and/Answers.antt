use Rattle.std.proofs.Common.{sym, ap, subst, ◌∙◌, IfOk, false}
use Rattle.gates.specs.declared.signal.Signal.TheVariants.{Fixed}
use Rattle.gates.specs.Build.{and}
use Rattle.gates.specs.Circuits.{Runs}
use Rattle.gates.proofs.Running.{runs-done}
use Rattle.gates.proofs.circuit.Gates.and.Goals as goal

pub returns-in-Fixed-true : goal.returns-in-Fixed-true
unfolding and
returns-in-Fixed-true c =
    let is = c.in-Fixed-true.is ∙ ap Fixed c.in-Fixed-true.field-0-test in
    let s = c.args.self.now in
    subst (λ x. Runs (and x c.args.b) s s c.args.b) (sym is) runs-done

pub returns-in-Fixed-false : goal.returns-in-Fixed-false
unfolding and
returns-in-Fixed-false c =
    let is = c.in-Fixed-false.is ∙ ap Fixed c.in-Fixed-false.field-0-test in
    let s = c.args.self.now in
    subst (λ x. Runs (and x c.args.b) s s (Fixed false)) (sym is) runs-done

pub returns-in-Wire : goal.returns-in-Wire
unfolding and
returns-in-Wire c =
    subst (λ x. IfOk c.and_pin.result (Runs (and x c.args.b) c.args.self.now c.and_pin.new.self)) (sym c.in-Wire.is) c.and_pin.ensures
