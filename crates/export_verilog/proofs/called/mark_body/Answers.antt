use Rattle.std.proofs.Common.{map, refl}
use Rattle.hw_model.specs.KindViews.{kind_of}
use Rattle.hw_model.specs.Design.{instance_in}
use Rattle.ir_store.specs.Bodies.{ops_of}
use Rattle.ir_store.specs.Numbered.{ops_by_position}
use Rattle.ir_store.specs.Designs.{StoredModule, modules_of}
use Rattle.design_cycles.specs.Calls.{callee_number}
use Rattle.body_index.specs.OpIndexes.{op_view}
use Rattle.export_verilog.proofs.items.Marks.{body_more}
use Rattle.export_verilog.proofs.called.mark_body.Goals as goal

pub loop-position-preserved : goal.loop-position-preserved
loop-position-preserved c =
    let symbols = map (λ (m : StoredModule). m.symbol) (modules_of c.args.design.now) in
    body_more symbols (ops_by_position (ops_of c.args.body.now)) c.loop-position.position (callee_number symbols (instance_in (kind_of c.op_at.result.kind.now))) c.args.marks.now.items
    c.loop-position.marks.items c.mark_called.new.marks.items (record { op_there = op_view c.args.body.now c.op_at.result; has_op = c.op_at.ensures; number_is = refl }) c.loop-position.invariant
    c.mark_called.ensures
