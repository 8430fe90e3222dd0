use Rattle.std.proofs.Common.{◌≡◌, ◌++◌, [], sym, ap, ◌∙◌}
use Rattle.std.proofs.lemmas.List.{drop_more}
use Rattle.verilog_model.specs.Grammar.{level}
use Rattle.verilog_model.specs.Expression.{is_signed}
use Rattle.verilog_model.specs.Text.{expr_text}
use Rattle.verilog_expr.specs.Scopes.{scope_ports, scope_ops, scope_ref}
use Rattle.verilog_expr.specs.Forms.{form_text}
use Rattle.verilog_expr.specs.Templates.{template_text, name_of_one}
use Rattle.verilog_expr.specs.Named.{named_of}
use Rattle.verilog_expr.specs.ExprNode.{expr_at, placed_at, shown_at, text_or, select_text, wrap_for, open_text, close_text}
use Rattle.wiring.proofs.Joined.{three_added}
use Rattle.verilog_expr.specs.declared.template.Template.TheVariants.{Select}
use Rattle.verilog_expr.proofs.FormSteps.{form_step}
use Rattle.verilog_expr.proofs.Writing.{at_zero, at_name, name_text, own_text, selects, selected_at, shown_placed, wrapped}
use Rattle.verilog_expr.proofs.expr.+expr.Goals as goal

pub push_bare-returns-then-depth-eq0 : goal.push_bare-returns-then-depth-eq0
push_bare-returns-then-depth-eq0 t c =
    c.in_ok-push_missing.ensures ∙ ap (λ e. c.args.out.now ++ expr_text e [])
    (sym (at_zero (named_of c.args.names.now) (scope_ports c.args.scope.now) (scope_ops c.args.scope.now) c.args.extending (scope_ref c.args.scope.now c.args.value) c.args.depth c.if-depth-eq0.true))

pub push_bare-returns-in-Some : goal.push_bare-returns-in-Some
push_bare-returns-in-Some t c =
    c.in_ok-push_bytes.ensures.ok ∙ ap (λ b. c.args.out.now ++ b)
    (sym (ap (λ e. expr_text e []) (at_name (named_of c.args.names.now) (scope_ports c.args.scope.now) (scope_ops c.args.scope.now) c.args.extending (scope_ref c.args.scope.now c.args.value) c.args.depth
    c.in-Some.name.now c.if-depth-eq0.false (sym c.in-Some.ensures)) ∙ name_text c.in-Some.name.now))

pub push_bare-returns : goal.push_bare-returns
push_bare-returns t c =
    c.in_ok-push_node.ensures ∙ ap (λ b. c.args.out.now ++ b)
    (own_text c.args.scope.now c.args.names.now c.args.depth c.args.extending c.args.value c.node_at-node.result.template c.node_at-node.result.operands.now c.if-depth-eq0.false c.in_default.ensures
    c.node_at-node.ensures)

pub push_node-returns-in-Some : goal.push_node-returns-in-Some
push_node-returns-in-Some t c =
    c.in_ok-push_bare.ensures ∙ ap (λ m. c.args.out.now ++ text_or m (template_text c.args.node.now.template
    (placed_at c.args.scope.now c.args.names.now c.args.depth c.args.extending c.args.node.now.template c.args.node.now.operands.now 0 c.args.node.now.operands.now))) c.in-Some.ensures

pub push_node-returns : goal.push_node-returns
push_node-returns t c =
    c.in_ok-push_template.ensures ∙ ap (λ m. c.args.out.now ++ text_or m (template_text c.args.node.now.template
    (placed_at c.args.scope.now c.args.names.now c.args.depth c.args.extending c.args.node.now.template c.args.node.now.operands.now 0 c.args.node.now.operands.now))) c.in_default.ensures

pub push_template-returns-in_ok-push_select-in-Select : goal.push_template-returns-in_ok-push_select-in-Select
push_template-returns-in_ok-push_select-in-Select t c =
    let es = placed_at c.args.scope.now c.args.names.now c.args.depth c.args.extending (Select c.in-Select.low c.in-Select.width) c.args.operands.now 0 c.args.operands.now in
    c.in_ok-push_select-in-Select.ensures ∙ ap (λ b. c.args.out.now ++ b)
    (ap (λ m. select_text m c.in-Select.low c.in-Select.width) (c.only_name-name.ensures
    ∙ sym (ap name_of_one (selected_at c.args.scope.now c.args.names.now c.args.depth c.args.extending c.in-Select.low c.in-Select.width c.args.operands.now 0 c.args.operands.now)))
    ∙ sym (selects c.in-Select.low c.in-Select.width es)
    ∙ sym (ap (λ q. template_text q (placed_at c.args.scope.now c.args.names.now c.args.depth c.args.extending q c.args.operands.now 0 c.args.operands.now)) c.in-Select.is))

pub push_template-returns-in_ok-push_form-in-Operands : goal.push_template-returns-in_ok-push_form-in-Operands
push_template-returns-in_ok-push_form-in-Operands t c =
    c.in_ok-push_form-in-Operands.ensures ∙ ap (λ b. c.args.out.now ++ b)
    (ap (λ ys. form_text c.in-Operands.form 0 (shown_at c.args.scope.now c.args.names.now c.args.depth c.args.extending c.in-Operands.form ys 0 ys)) c.operands_in_text.ensures
    ∙ sym (ap (form_text c.in-Operands.form 0) (shown_placed c.args.scope.now c.args.names.now c.args.depth c.args.extending c.in-Operands.form c.args.operands.now))
    ∙ sym (ap (λ q. template_text q (placed_at c.args.scope.now c.args.names.now c.args.depth c.args.extending q c.args.operands.now 0 c.args.operands.now)) c.in-Operands.is))

pub push_value-returns : goal.push_value-returns
push_value-returns t c =
    let e = expr_at c.args.scope.now c.args.names.now c.args.depth c.args.extending c.args.value in
    let w = wrap_for c.args.unsigned c.args.level (is_signed e) (level e) in
    let same : c.wrap_for-wrap.result ≡ w =
    c.wrap_for-wrap.ensures ∙ ap (λ b. wrap_for c.args.unsigned c.args.level b c.info_at-seen.result.level) c.info_at-seen.ensures.signed
    ∙ ap (λ l. wrap_for c.args.unsigned c.args.level (is_signed e) l) c.info_at-seen.ensures.level in
    three_added c.args.out.now c.push_open.new.out c.push_bare.new.out c.push_close.new.out (open_text w) (expr_text e []) (close_text w)
    (c.in_ok-push_open.ensures ∙ ap (λ x. c.args.out.now ++ open_text x) same) c.in_ok-push_bare.ensures
    (c.in_ok-push_close.ensures ∙ ap (λ x. c.push_bare.new.out ++ close_text x) same)
    ∙ ap (λ b. c.args.out.now ++ b) (wrapped c.args.unsigned c.args.level e c.requires)

pub push_form-loop-i-preserved : goal.push_form-loop-i-preserved
push_form-loop-i-preserved t c =
    form_step c.args.scope.now c.args.names.now c.args.depth c.args.extending c.args.form c.args.operands.now c.loop-i.i _ c.place_at.result c.asks_unsigned.result c.asks_level.result
    c.loop-i.out c.push_before.new.out c.push_value.new.out _ (drop_more c.args.operands.now c.loop-i.i _ c.loop-i-test.true) c.place_at.ensures c.asks_unsigned.ensures c.asks_level.ensures
    c.loop-i.invariant c.in_ok-push_before.ensures c.in_ok-push_value.ensures
