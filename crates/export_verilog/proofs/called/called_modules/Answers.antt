use Rattle.ir_store.specs.Designs.{modules_of, module_of}
use Rattle.export_verilog.proofs.items.Marks.{marks_more}
use Rattle.export_verilog.proofs.called.called_modules.Goals as goal

pub loop-number-preserved : goal.loop-number-preserved
loop-number-preserved c =
    marks_more (modules_of c.args.design.now) c.loop-number.number (module_of c.module.result.now) c.loop-number.marks.items c.mark_body.new.marks.items c.module.ensures c.loop-number.invariant
    c.in_ok-mark_body.ensures
