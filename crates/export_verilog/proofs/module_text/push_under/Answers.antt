use Rattle.std.proofs.Common.{[], ◌++◌, length, ap, sym, subst, ◌∙◌, arith}
use Rattle.std.proofs.lemmas.List.{length-map}
use Rattle.ir_store.specs.Designs.{design_of, port_of}
use Rattle.verilog_expr.specs.Scopes.{scope_ports}
use Rattle.export_verilog.specs.Exported.{vports, vitems}
use Rattle.export_verilog.specs.Layout.{ports_text}
use Rattle.export_verilog.specs.Written.{AreNarrow, ports_named}
use Rattle.export_verilog.specs.ScopeModules.{scope_module}
use Rattle.export_verilog.proofs.text.ModuleParts.{named_ports, module_parts}
use Rattle.export_verilog.proofs.module_text.push_under.Goals as goal

pub push_ports-requires : goal.push_ports-requires
push_ports-requires c = record {
  count = omega (arith, ap length c.as_slice.ensures.value, c.args.writer.now.names_are.many, ap length c.ports.ensures, length-map c.ports.result.now port_of);
  narrow = subst AreNarrow (sym c.ports.ensures) c.requires;
}

pub returns : goal.returns
returns c =
    let m = scope_module c.args.writer.now.scope in
    module_parts c.args.name.now (vports m) (vitems c.args.writer.now.options (design_of c.args.writer.now.design.now.design.now) m)
    c.args.out.now c.push_bytes.new.self c.push_bytes-2.new.self c.push_ports.new.out c.push_items.new.out c.push_bytes-3.new.self
    c.in_ok-push_bytes.ensures.ok c.in_ok-push_bytes-2.ensures.ok
    (c.in_ok-push_ports.ensures
    ∙ ap (λ ps. c.push_bytes-2.new.self ++ ports_text (ports_named c.as_slice.result.now ps) []) c.ports.ensures
    ∙ ap (λ ns. c.push_bytes-2.new.self ++ ports_text (ports_named ns (scope_ports c.args.writer.now.scope)) []) c.as_slice.ensures.value
    ∙ ap (λ ps. c.push_bytes-2.new.self ++ ports_text ps []) (named_ports m c.args.writer.now.names.ports.items c.args.writer.now.names_are.many c.args.writer.now.names_are.ports_are))
    c.in_ok-push_items.ensures c.in_ok-push_bytes-3.ensures.ok
