use Rattle.ir_store.specs.Bodies.{ops_of}
use Rattle.ir_store.specs.Designs.{modules_of}
use Rattle.ir_store.specs.Numbered.{ops_by_position}
use Rattle.body_index.specs.OpIndexes.{op_view}
use Rattle.run_lists.specs.Runs.{expanded}
use Rattle.module_sums.specs.RegisterWidths.{kept_widths}
use Rattle.module_sums.proofs.LeafRuns.{body_more}
use Rattle.module_sums.proofs.registers.body_runs.Goals as goal

pub loop-position-preserved : goal.loop-position-preserved
loop-position-preserved c = (
  body_more (kept_widths (modules_of c.args.design.now) c.args.table.now) (ops_by_position (ops_of c.args.body.now)) c.loop-position.position (op_view c.args.body.now c.op_at-op.result)
      (expanded c.loop-position.list.runs.items) (expanded c.push_op.new.list.runs.items) c.op_at-op.ensures c.loop-position.invariant.0 c.in_ok-push_op.ensures.numbers,
  c.in_ok-push_op.ensures.apart,
)
