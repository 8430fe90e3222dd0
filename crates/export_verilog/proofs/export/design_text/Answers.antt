use Rattle.std.proofs.Common.{◌++◌, map, refl, ◌∙◌, ap, arith}
use Rattle.ir_store.specs.Designs.{modules_of, design_of}
use Rattle.export_verilog.specs.Exported.{vmodule}
use Rattle.export_verilog.specs.Layout.{verilog_text}
use Rattle.export_verilog.proofs.text.ModuleParts.{modules_left, left_all, module_step, modules_end}
use Rattle.export_verilog.proofs.text.StoredModules.{stored_count}
use Rattle.export_verilog.proofs.export.design_text.Goals as goal

pub loop-number-init : goal.loop-number-init
loop-number-init c =
    let d = design_of c.args.all.now.design.now in
    ap (λ t. t ++ modules_left 0 (map (vmodule c.args.options d) d)) c.new-out.ensures ∙ left_all c.args.options d

pub loop-number-preserved : goal.loop-number-preserved
loop-number-preserved c =
    let d = design_of c.args.all.now.design.now in
    module_step (vmodule c.args.options d) d c.loop-number.number _ c.loop-number.out c.push_between.new.out c.push_module.new.out (verilog_text c.args.options d)
    (omega (arith, c.loop-number-test.true, c.module_count-number-end.ensures, stored_count (modules_of c.args.all.now.design.now))) refl
    c.loop-number.invariant c.in_ok-push_between.ensures c.in_ok-push_module.ensures

pub returns : goal.returns
returns c =
    let d = design_of c.args.all.now.design.now in
    modules_end (vmodule c.args.options d) d c.loop-number.number c.loop-number.out (verilog_text c.args.options d)
    (omega (arith, c.loop-number-test.false, c.module_count-number-end.ensures, stored_count (modules_of c.args.all.now.design.now))) c.loop-number.invariant
