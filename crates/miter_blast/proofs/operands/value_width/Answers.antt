use Rattle.std.proofs.Common.{◌≡◌, sym, subst, arith}
use Rattle.std.specs.Prelude.{IfOk}
use Rattle.hw_model.specs.Design.Ref.{result}
use Rattle.hw_model.specs.Flat.{width_of}
use Rattle.hw_model.specs.Sound.{type_in}
use Rattle.ir_store.specs.Bodies.{ops_of}
use Rattle.ir_store.specs.Designs.{ports_in}
use Rattle.ir_store.specs.Numbered.{ops_by_position}
use Rattle.body_index.specs.OpIndexes.{op_view}
use Rattle.miter_blast.proofs.ValueWidths.{typed_at, untyped_past}
use Rattle.miter_blast.proofs.operands.value_width.Goals as goal

pub returns-then-position-count : goal.returns-then-position-count
returns-then-position-count c =
    let b = c.args.body.now.ops.now.body.now in
    let ps = ports_in c.args.body.now.ports.now in
    let os = ops_by_position (ops_of b) in
    let k = c.in-Result.number in
    rw c.in-Result.is
    (subst (λ i. IfOk c.result_width.result (λ w. w ≡ width_of (type_in ps os (result i k)))) c.position-position.ensures
    (subst (λ t. IfOk c.result_width.result (λ w. w ≡ width_of t)) (sym (typed_at ps os c.position-position.result k (op_view b c.op_at.result) c.op_at.ensures)) (c.result_width.ensures b)))

pub returns-else-position-count : goal.returns-else-position-count
returns-else-position-count c =
    let b = c.args.body.now.ops.now.body.now in
    let ps = ports_in c.args.body.now.ports.now in
    let os = ops_by_position (ops_of b) in
    let k = c.in-Result.number in
    rw c.in-Result.is
    (subst (λ i. 0 ≡ width_of (type_in ps os (result i k))) c.position-position.ensures
    (untyped_past ps os c.position-position.result k (omega (arith, c.count.ensures, c.if-position-count.false))))
