use Rattle.std.proofs.Common.{sym, ap, subst, ◌∙◌, false}
use Rattle.gates.specs.declared.signal.Signal.TheVariants.{Fixed, Wire}
use Rattle.gates.specs.Build.{and_pin}
use Rattle.gates.specs.Circuits.{Runs}
use Rattle.gates.proofs.Running.{runs-done}
use Rattle.gates.proofs.circuit.Gates.and_pin.Goals as goal

pub returns-in-Fixed-true : goal.returns-in-Fixed-true
returns-in-Fixed-true c =
    let is = c.in-Fixed-true.is ∙ ap Fixed c.in-Fixed-true.field-0-test in
    let s = c.args.self.now in
    subst (λ x. Runs (and_pin c.args.a x) s s (Wire c.args.a)) (sym is) runs-done

pub returns-in-Fixed-false : goal.returns-in-Fixed-false
returns-in-Fixed-false c =
    let is = c.in-Fixed-false.is ∙ ap Fixed c.in-Fixed-false.field-0-test in
    let s = c.args.self.now in
    subst (λ x. Runs (and_pin c.args.a x) s s (Fixed false)) (sym is) runs-done
