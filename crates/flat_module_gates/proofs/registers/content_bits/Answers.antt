use Rattle.std.proofs.Common.{ap, ◌∙◌, arith}
use Rattle.std.proofs.lemmas.List.{take_all}
use Rattle.ir_store.specs.Bodies.{ops_of}
use Rattle.ir_store.specs.Numbered.{ops_by_position}
use Rattle.flat_module_gates.specs.FlatSteps.{content_width}
use Rattle.flat_module_gates.proofs.Loading.{width_more}
use Rattle.flat_module_gates.proofs.registers.content_bits.Goals as goal

pub loop-position-preserved : goal.loop-position-preserved
loop-position-preserved c =
    let os = ops_by_position (ops_of c.args.ops.now.body.now) in
    let more = width_more os c.loop-position.position (omega (arith, c.count-position-end.ensures, c.loop-position-test.true)) in
    omega (arith, more, c.loop-position.invariant, c.in_ok-bits.ensures, c.in_ok-bits_at.ensures)

pub returns : goal.returns
returns c =
    let os = ops_by_position (ops_of c.args.ops.now.body.now) in
    c.loop-position.invariant ∙ ap content_width (take_all c.loop-position.position os (omega (arith, c.count-position-end.ensures, c.loop-position-test.false)))
