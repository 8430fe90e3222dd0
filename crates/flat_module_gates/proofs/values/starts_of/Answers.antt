use Rattle.std.proofs.Common.{ap, ◌∙◌, ◌+◌, arith}
use Rattle.ir_store.specs.Bodies.{ops_of}
use Rattle.ir_store.specs.Numbered.{ops_by_position}
use Rattle.flat_module_gates.specs.FlatGateLists.{starts_from}
use Rattle.flat_module_gates.proofs.Tables.{starts_more, starts_end}
use Rattle.flat_module_gates.proofs.values.starts_of.Goals as goal

pub loop-position-preserved : goal.loop-position-preserved
loop-position-preserved c =
    let os = ops_by_position (ops_of c.args.ops.now.body.now) in
    starts_more (starts_from 0 os) c.loop-position.starts.items c.push.new.self.items os c.loop-position.position c.loop-position.start c.in_ok-start.start (omega (arith, c.count-position-end.ensures, c.loop-position-test.true))
    c.loop-position.invariant c.in_ok-push.ensures.items (c.in_ok-start.ensures ∙ ap (λ n. c.loop-position.start + n) c.in_ok-bits_at.ensures)

pub returns : goal.returns
returns c =
    let os = ops_by_position (ops_of c.args.ops.now.body.now) in
    starts_end (starts_from 0 os) c.loop-position.starts.items os c.loop-position.position c.loop-position.start (omega (arith, c.count-position-end.ensures, c.loop-position-test.false)) c.loop-position.invariant
