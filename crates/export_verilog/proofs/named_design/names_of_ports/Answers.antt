use Rattle.std.proofs.Common.{◌≡◌, map, length, Some, slice_get, subst, sym, ◌∙◌, ap, arith}
use Rattle.std.specs.Prelude.{option_map}
use Rattle.ir_store.specs.Designs.{design_of, modules_of, module_of, numbered_module, port_of}
use Rattle.export_verilog.specs.NamedDesigns.{AreNamesWhere, ArePortsOf}
use Rattle.export_verilog.proofs.items.Operands.{get_map}
use Rattle.export_verilog.proofs.names.PortLists.{length_last, ports_more}
use Rattle.export_verilog.proofs.named_design.names_of_ports.Goals as goal

pub loop-number-preserved : goal.loop-number-preserved
loop-number-preserved c =
    let d = c.args.design.now in
    let i = c.loop-number.number in
    let ls = c.loop-number.ports.items in
    let l = c.in_ok-list.list in
    let x = module_of c.module.result.now in
    let at : slice_get (design_of d) (length ls) ≡ Some (numbered_module x) =
    ap (slice_get (design_of d)) c.loop-number.invariant.count ∙ get_map numbered_module (modules_of d) i ∙ ap (option_map numbered_module) (sym c.module.ensures) in
    let named : ArePortsOf (numbered_module x) l =
    subst (λ ps. AreNamesWhere (map port_of ps) (option_map (λ (n : _). n.items) l.names)) c.as_slice-in-loop-number.ensures.value c.in_ok-list.ensures in
    record {
      count = ap length c.in_ok-push.ensures.items ∙ omega (arith, length_last ls l, c.loop-number.invariant.count);
      within = omega (arith, c.loop-number-test.true, c.module_count-number-end.ensures);
      named = λ n m y e f. ports_more (design_of d) ls l (numbered_module x) at named c.loop-number.invariant.named n m y e (ap (λ xs. slice_get xs n) (sym c.in_ok-push.ensures.items) ∙ f);
    }
