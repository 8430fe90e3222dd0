use Rattle.std.proofs.Common.{◌≡◌, length, refl, sym, ◌∙◌, arith}
use Rattle.hw_model.specs.Design.{result_type}
use Rattle.hw_model.specs.Flat.{width_of}
use Rattle.verilog_expr.specs.Scopes.{scope_ports, scope_ops, op_read}
use Rattle.verilog_expr.proofs.Writing.{width_result, node_none, node_is}
use Rattle.verilog_expr.proofs.node.result_node.Goals as goal

pub divisor_in-divisor-requires : goal.divisor_in-divisor-requires
divisor_in-divisor-requires c =
    omega (
      arith,
      c.result_width-width.ensures,
      width_result (scope_ports c.args.scope.now) (scope_ops c.args.scope.now) c.requires.position c.args.number (op_read c.args.scope.now c.args.op.now) c.requires.there c.args.scope.now.small,
    )

pub template_for-requires : goal.template_for-requires
template_for-requires c =
    omega (
      arith,
      c.result_width-width.ensures,
      width_result (scope_ports c.args.scope.now) (scope_ops c.args.scope.now) c.requires.position c.args.number (op_read c.args.scope.now c.args.op.now) c.requires.there c.args.scope.now.small,
    )

pub returns-then-not-has_result : goal.returns-then-not-has_result
returns-then-not-has_result c = λ r found.
    node_none c.args.scope.now (op_read c.args.scope.now c.args.op.now) c.args.number r found c.nothing_node.result.template c.nothing_node.result.operands.now
    (sym c.has_result.ensures ∙ c.if-not-has_result.true) c.nothing_node.ensures.template

pub returns : goal.returns
returns c =
    let o = op_read c.args.scope.now c.args.op.now in
    let small = width_result (scope_ports c.args.scope.now) (scope_ops c.args.scope.now) c.requires.position c.args.number o c.requires.there c.args.scope.now.small in
    let wide : c.result_width-width.result ≡ width_of (result_type o c.args.number) = omega (arith, c.result_width-width.ensures, small) in
    λ r found. node_is c.args.scope.now o c.args.number r found c.template_for.result c.args.op.now.operands.now
    c.result_width-width.result c.divisor_in-divisor.result c.head_width-head.result (length c.args.op.now.operands.now)
    (sym c.has_result.ensures ∙ c.if-not-has_result.false) refl wide c.head_width-head.ensures c.divisor_in-divisor.ensures refl c.template_for.ensures
