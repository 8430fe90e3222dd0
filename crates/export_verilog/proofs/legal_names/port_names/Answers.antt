use Rattle.std.proofs.Common.{◌≡◌, [], map, length, sym, ap, ◌∙◌, subst}
use Rattle.std.proofs.lemmas.List.{length-map}
use Rattle.hw_model.specs.Design.{Port}
use Rattle.ir_store.specs.Designs.{port_of}
use Rattle.name_legalise.specs.Legal.{legal}
use Rattle.name_legalise.proofs.Legals.{legal_count}
use Rattle.export_verilog.specs.Held.{ArePortNames}
use Rattle.export_verilog.proofs.names.PortNames.{port_names_are}
use Rattle.export_verilog.proofs.legal_names.port_names.Goals as goal

pub returns : goal.returns
returns c =
    let ps = map port_of c.args.ports.now in
    let ws = map (λ (p : Port). p.name) ps in
    let e : c.in_ok-names.names.items ≡ legal ws = c.in_ok-names.ensures ∙ ap legal (c.as_slice.ensures.value ∙ c.in_ok-wanted.ensures) in
    record {
      count = ap length e ∙ legal_count [] ws ∙ length-map ps (λ (p : Port). p.name) ∙ length-map c.args.ports.now port_of;
      names = subst (ArePortNames ps) (sym e) (port_names_are ps);
    }
