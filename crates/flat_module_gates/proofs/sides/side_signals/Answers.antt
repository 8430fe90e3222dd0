use Rattle.std.proofs.Common.{sym, ap, subst, IfOk}
use Rattle.gates.specs.Circuits.{Runs}
use Rattle.hw_model.specs.Flat.{input_width}
use Rattle.ir_store.specs.Bodies.{ops_of}
use Rattle.ir_store.specs.Designs.{ports_in}
use Rattle.ir_store.specs.Numbered.{ops_by_position}
use Rattle.flat_module_gates.specs.FlatGateLists.{port_words}
use Rattle.flat_module_gates.specs.FlatSteps.{flat_gate_list_over, flat_gate_list, FlatFitsOver, FlatFits}
use Rattle.flat_module_gates.proofs.Loading.{side_runs_then}
use Rattle.flat_module_gates.proofs.sides.side_signals.Goals as goal

pub held_signals-requires : goal.held_signals-requires
held_signals-requires c =
    let os = ops_by_position (ops_of c.in_ok-ops.ops.body.now) in
    let ps = ports_in c.args.module.now.ports in
    let fits = subst (λ b. FlatFits (input_width ps) ps (ops_by_position b) c.args.order.now c.args.gates.now) (sym (ap ops_of c.in_ok-ops.ensures)) c.requires in
    subst (λ p. FlatFitsOver p c.as_slice-2.result.now os c.args.order.now c.first_content.new.gates) (sym c.in_ok-ports.ensures)
    (subst (λ k. FlatFitsOver (port_words 0 ps) k os c.args.order.now c.first_content.new.gates) (sym c.as_slice-2.ensures.value)
    (fits.over c.first_content.new.gates c.in_ok-content.content.items c.in_ok-content.ensures))

pub returns : goal.returns
returns c =
    let os = ops_by_position (ops_of c.in_ok-ops.ops.body.now) in
    let ps = ports_in c.args.module.now.ports in
    let content = c.in_ok-content.content.items in
    let s = c.args.gates.now in
    let t = c.first_content.new.gates in
    let u = c.held_signals.new.gates in
    let r = c.held_signals.result in
    let second = subst (λ p. IfOk r (λ v. Runs (flat_gate_list_over p content os c.args.order.now) t u v.items)) c.in_ok-ports.ensures
    (subst (λ k. IfOk r (λ v. Runs (flat_gate_list_over c.in_ok-ports.ports.items k os c.args.order.now) t u v.items)) c.as_slice-2.ensures.value c.held_signals.ensures) in
    subst (λ b. IfOk r (λ v. Runs (flat_gate_list (input_width ps) ps (ops_by_position b) c.args.order.now) s u v.items)) (ap ops_of c.in_ok-ops.ensures)
    (side_runs_then (λ v. v.items) (input_width ps) ps os c.args.order.now s t u content r c.in_ok-content.ensures second)
