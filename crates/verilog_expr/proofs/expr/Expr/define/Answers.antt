use Rattle.std.proofs.Common.{map, sym, ap, ◌∙◌, []}
use Rattle.verilog_expr.specs.Named.{named_of}
use Rattle.verilog_expr.specs.Extensions.{alone_under}
use Rattle.verilog_expr.specs.Places.{alone_in}
use Rattle.verilog_expr.specs.Scopes.{scope_ports, scope_ops, scope_ref}
use Rattle.verilog_expr.specs.ExprNode.{exprs_to}
use Rattle.verilog_model.specs.Text.{expr_text}
use Rattle.verilog_expr.proofs.Writing.{empty_first, written_or}
use Rattle.verilog_expr.proofs.expr.Expr.define.Goals as goal

pub returns : goal.returns
returns c =
    let s = c.args.scope.now in
    let n = c.node_at-node.result in
    let made = c.node_at-node.ensures.made (named_of c.args.names.now) (exprs_to s c.args.names.now 65) c.args.extending in
    empty_first c.new-text.result c.push_node.new.out _ c.new-text.ensures c.in_ok-push_node.ensures
    ∙ written_or (alone_under c.args.extending (alone_in (scope_ports s) (scope_ops s) (exprs_to s c.args.names.now 65) n.template (map (scope_ref s) n.operands.now))) made.whole _ made.is.text
    ∙ sym (ap (λ e. expr_text e []) made.own)
