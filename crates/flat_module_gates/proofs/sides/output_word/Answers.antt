use Rattle.std.proofs.Common.{◌≡◌, refl, sym, ap, ◌∙◌, map, arith, subst, IfOk}
use Rattle.ir_store.specs.Bodies.{ops_of}
use Rattle.ir_store.specs.Numbered.{ops_by_position}
use Rattle.body_index.specs.OpIndexes.{op_view}
use Rattle.operation_gates.specs.OperationGateLists.{concatenation}
use Rattle.flat_module_gates.specs.FlatGateLists.{word_at}
use Rattle.flat_module_gates.proofs.Loading.{outputs_here, outputs_later, outputs_none}
use Rattle.flat_module_gates.proofs.sides.output_word.Goals as goal

pub loop-position-preserved : goal.loop-position-preserved
loop-position-preserved c =
    let b = c.args.ops.now.body.now in
    outputs_later (ops_by_position (ops_of b)) c.loop-position.position (op_view b c.op_at-op.result) c.op_at-op.ensures (sym c.is_output.ensures ∙ c.if-is_output.false) c.loop-position.invariant

pub returns : goal.returns
returns c =
    let os = ops_by_position (ops_of c.args.ops.now.body.now) in
    let none = outputs_none os c.loop-position.position (omega (arith, c.count-position-end.ensures, c.loop-position-test.false)) c.loop-position.invariant in
    rw (none, c.new.ensures.items) refl

pub returns-then-is_output : goal.returns-then-is_output
returns-then-is_output c =
    let b = c.args.ops.now.body.now in
    let os = ops_by_position (ops_of b) in
    let words = word_at c.args.words.now.ports.items c.args.words.now.results.items in
    let here = outputs_here os c.loop-position.position (op_view b c.op_at-op.result) c.op_at-op.ensures (sym c.is_output.ensures ∙ c.if-is_output.true) c.loop-position.invariant in
    subst (λ xs. IfOk c.concatenation.result (λ v. v.items ≡ concatenation xs)) (c.as_slice.ensures.value ∙ c.in_ok-given.ensures ∙ ap (map words) (sym here)) c.concatenation.ensures
