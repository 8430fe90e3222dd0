use Rattle.std.proofs.Common.{ap, ◌∙◌, arith}
use Rattle.std.proofs.lemmas.List.{take_all}
use Rattle.ir_store.specs.Bodies.{ops_of}
use Rattle.ir_store.specs.Numbered.{ops_by_position}
use Rattle.body_index.specs.OpIndexes.{op_view}
use Rattle.and_gates.specs.Clocks.{clock_ports}
use Rattle.and_gates.proofs.Scanning.{clocks_more}
use Rattle.and_gates.proofs.clocks.clock_ports.Goals as goal

pub loop-position-preserved : goal.loop-position-preserved
loop-position-preserved c =
    let b = c.args.ops.now.body.now in
    let os = ops_by_position (ops_of b) in
    c.in_ok-push_clock.ensures b ∙ clocks_more os c.loop-position.position (op_view b c.op_at-op.result) c.loop-position.ports.items c.op_at-op.ensures c.loop-position.invariant

pub returns : goal.returns
returns c =
    let os = ops_by_position (ops_of c.args.ops.now.body.now) in
    c.loop-position.invariant ∙ ap clock_ports (take_all c.loop-position.position os (omega (arith, c.count-position-end.ensures, c.loop-position-test.false)))
