use Rattle.std.proofs.Common.{sym, ap, subst, IfOk}
use Rattle.gates.specs.Circuits.{Runs}
use Rattle.ir_store.specs.Bodies.{ops_of}
use Rattle.ir_store.specs.Designs.{ports_in}
use Rattle.ir_store.specs.Numbered.{ops_by_position}
use Rattle.flat_module_gates.specs.FlatGateLists.{words_over}
use Rattle.flat_module_gates.specs.FlatSteps.{flat_gate_list_over, FlatFitsOver}
use Rattle.flat_module_gates.proofs.sides.side_signals_over.Goals as goal

pub held_signals-requires : goal.held_signals-requires
held_signals-requires c =
    subst (λ p. FlatFitsOver p c.args.content.now (ops_by_position (ops_of c.in_ok-ops.ops.body.now)) c.args.order.now c.args.gates.now) (sym c.in_ok-ports.ensures)
    (subst (λ b. FlatFitsOver (words_over c.args.inputs.now 0 (ports_in c.args.module.now.ports)) c.args.content.now (ops_by_position b) c.args.order.now c.args.gates.now)
    (sym (ap ops_of c.in_ok-ops.ensures)) c.requires)

pub returns : goal.returns
returns c =
    let r = c.held_signals.result in
    let u = c.held_signals.new.gates in
    subst (λ b. IfOk r (λ v. Runs (flat_gate_list_over (words_over c.args.inputs.now 0 (ports_in c.args.module.now.ports)) c.args.content.now (ops_by_position b) c.args.order.now) c.args.gates.now u v.items))
    (ap ops_of c.in_ok-ops.ensures)
    (subst (λ p. IfOk r (λ v. Runs (flat_gate_list_over p c.args.content.now (ops_by_position (ops_of c.in_ok-ops.ops.body.now)) c.args.order.now) c.args.gates.now u v.items)) c.in_ok-ports.ensures
    c.held_signals.ensures)
