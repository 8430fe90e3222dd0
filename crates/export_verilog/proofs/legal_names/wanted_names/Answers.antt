use Rattle.std.proofs.Common.{◌∷◌, [], map, refl, ap, ◌∙◌, arith, ◌++◌}
use Rattle.hw_model.specs.Design.{Port}
use Rattle.ir_store.specs.Designs.{port_of}
use Rattle.export_verilog.proofs.text.Listed.{gather_step, gather_end}
use Rattle.export_verilog.proofs.legal_names.wanted_names.Goals as goal

pub loop-port-preserved : goal.loop-port-preserved
loop-port-preserved c =
    gather_step (λ p. (port_of p).name) (λ xs. map (λ (x : Port). x.name) (map port_of xs)) c.args.ports.now c.loop-port.port-index c.port-item.result c.loop-port.wanted.items c.push.new.self.items
    (map (λ (x : Port). x.name) (map port_of c.args.ports.now)) (λ y ys. refl) c.loop-port-test.true c.port-item.is c.loop-port.invariant
    (c.in_ok-push.ensures.items ∙ ap (λ n. c.loop-port.wanted.items ++ n ∷ []) c.in_ok-try_clone.ensures)

pub returns : goal.returns
returns c =
    gather_end (λ xs. map (λ (x : Port). x.name) (map port_of xs)) c.args.ports.now c.loop-port.port-index c.loop-port.wanted.items
    (map (λ (x : Port). x.name) (map port_of c.args.ports.now)) refl (omega (arith, c.loop-port-test.false)) c.loop-port.invariant
