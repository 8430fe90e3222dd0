use Rattle.std.proofs.Common.{◌≡◌, ◌≤◌, Bool, sym, ap₂, subst, true, false, cond, arith}
use Rattle.std.proofs.Math.Bool.{beq}
use Rattle.std.proofs.lemmas.Bool.{eq-eqb}
use Rattle.gates.specs.declared.signal.Pin.{Pin}
use Rattle.gates.specs.declared.signal.Signal.{Signal}
use Rattle.gates.specs.declared.signal.Signal.TheVariants.{Fixed, Wire}
use Rattle.gates.specs.Signals.{ordered_gate}
use Rattle.gates.specs.Build.{Build, and_pins, done, joined}
use Rattle.gates.specs.Circuits.{Runs}
use Rattle.gates.proofs.Running.{runs-done}
use Rattle.gates.proofs.circuit.Gates.and_pins.Goals as goal

-- two pins of one variable
one_variable : (a b : Pin) (t : Bool) → b.variable ≤ a.variable → a.variable ≤ b.variable → beq a.positive b.positive ≡ t
    → and_pins a b ≡ done (cond t (Wire a) (Fixed false))
one_variable a b t low high is =
    let same : a.variable ≡ b.variable = omega arith in
    ap₂ (λ (v u : Bool). cond v (done (cond u (Wire a) (Fixed false))) (joined (ordered_gate a b))) (eq-eqb a.variable b.variable same) is

pub returns-then-a-b-2 : goal.returns-then-a-b-2
returns-then-a-b-2 c =
    let s = c.args.self.now in
    subst (λ (p : Build Signal). Runs p s s (Wire c.args.a)) (sym (one_variable c.args.a c.args.b true c.if-a-b.false c.if-b-a.false c.if-a-b-2.true)) runs-done

pub returns-else-a-b-2 : goal.returns-else-a-b-2
returns-else-a-b-2 c =
    let s = c.args.self.now in
    subst (λ (p : Build Signal). Runs p s s (Fixed false)) (sym (one_variable c.args.a c.args.b false c.if-a-b.false c.if-b-a.false c.if-a-b-2.false)) runs-done
