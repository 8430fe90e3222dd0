use Rattle.std.proofs.Common.{ap, ◌∙◌, length, sym}
use Rattle.std.specs.Prelude.{IfOk}
use mathlib.Core.Path.{subst₂}
use Rattle.gates.specs.Circuits.{Runs}
use Rattle.gate_words.specs.GateLists.{unlike}
use Rattle.ir_store.specs.Designs.{design_of}
use Rattle.miter_blast.proofs.Differences.{same_long, difference_from, order_from}
use Rattle.miter_blast.proofs.building.difference.Goals as goal

pub unlike-requires : goal.unlike-requires
unlike-requires c =
    let long = same_long (design_of c.args.first.now.design) (design_of c.args.second.now.design) c.requires.alone c.args.gates.now c.stepped_signals.new.gates c.stepped_signals-2.new.gates
    c.in_ok-one.one.items c.in_ok-two.two.items c.in_ok-one.ensures.step c.in_ok-two.ensures.step c.requires.inputs c.requires.order c.in_ok-one.ensures.order in
    ap length c.as_slice.ensures.value ∙ long ∙ sym (ap length c.as_slice-2.ensures.value)

pub returns-clause-difference : goal.returns-clause-difference
returns-clause-difference c =
    difference_from (design_of c.args.first.now.design) (design_of c.args.second.now.design) c.requires.alone c.args.gates.now c.stepped_signals.new.gates c.stepped_signals-2.new.gates
    c.in_ok-one.one.items c.in_ok-two.two.items c.in_ok-one.ensures.step c.in_ok-two.ensures.step c.requires.inputs c.requires.order c.in_ok-one.ensures.order c.unlike.new.gates c.unlike.result
    (subst₂ (λ xs ys. IfOk c.unlike.result (Runs (unlike xs ys) c.stepped_signals-2.new.gates c.unlike.new.gates)) c.as_slice.ensures.value c.as_slice-2.ensures.value c.unlike.ensures)

pub returns-clause-order : goal.returns-clause-order
returns-clause-order c =
    order_from (design_of c.args.first.now.design) (design_of c.args.second.now.design) c.requires.alone c.args.gates.now c.stepped_signals.new.gates c.stepped_signals-2.new.gates
    c.in_ok-one.one.items c.in_ok-two.two.items c.in_ok-one.ensures.step c.in_ok-two.ensures.step c.requires.inputs c.requires.order c.in_ok-one.ensures.order c.in_ok-two.ensures.order
    c.unlike.new.gates c.unlike.result
    (subst₂ (λ xs ys. IfOk c.unlike.result (Runs (unlike xs ys) c.stepped_signals-2.new.gates c.unlike.new.gates)) c.as_slice.ensures.value c.as_slice-2.ensures.value c.unlike.ensures)
