use Rattle.std.proofs.Common.{◌≡◌, ◌+◌, ◌*◌, ◌++◌, drop}
use Rattle.verilog_expr.specs.Forms.{form_text}
use Rattle.verilog_expr.specs.ExprNode.{shown_at}
use Rattle.verilog_expr.proofs.expr.+expr.Given as goal

abbrev pub decreases-push_value : goal.decreases-push_value
decreases-push_value l = 5 * l.depth + 1

abbrev pub decreases-push_bare : goal.decreases-push_bare
decreases-push_bare l = 5 * l.depth

abbrev pub decreases-push_node : goal.decreases-push_node
decreases-push_node l = 5 * l.depth + 4

abbrev pub decreases-push_template : goal.decreases-push_template
decreases-push_template l = 5 * l.depth + 3

abbrev pub decreases-push_form : goal.decreases-push_form
decreases-push_form l = 5 * l.depth + 2

abbrev pub invariant-push_form-loop-i : goal.invariant-push_form-loop-i
invariant-push_form-loop-i l =
    l.out ++ form_text l.form l.i (shown_at l.scope l.names l.depth l.extending l.form l.operands l.i (drop l.i l.operands))
    ≡ l.initial.out ++ form_text l.form 0 (shown_at l.scope l.names l.depth l.extending l.form l.operands 0 l.operands)
