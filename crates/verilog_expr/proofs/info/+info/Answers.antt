use Rattle.std.proofs.Common.{◌-◌, refl, sym, ap, ◌∙◌}
use Rattle.verilog_model.specs.Grammar.{level}
use Rattle.verilog_model.specs.Expression.{is_signed}
use Rattle.verilog_expr.specs.Extensions.{is_simple}
use Rattle.verilog_expr.specs.Scopes.{scope_ports, scope_ops, scope_ref}
use Rattle.verilog_expr.specs.Named.{named_of}
use Rattle.verilog_expr.specs.Templates.{sole_name, template_simple}
use Rattle.verilog_expr.specs.declared.extending.Extending.TheVariants.{Off}
use Rattle.verilog_expr.proofs.Writing.{at_zero, at_name, seen_alone, seen_same, seen_other, own_simple, plain_at}
use Rattle.verilog_expr.proofs.info.+info.Goals as goal

pub info_at-returns-then-depth-eq0 : goal.info_at-returns-then-depth-eq0
info_at-returns-then-depth-eq0 t c =
    let e = at_zero (named_of c.args.names.now) (scope_ports c.args.scope.now) (scope_ops c.args.scope.now) c.args.extending (scope_ref c.args.scope.now c.args.value) c.args.depth c.if-depth-eq0.true in
    record {
      name = c.plain.ensures.name ∙ sym (ap sole_name e);
      signed = c.plain.ensures.signed ∙ sym (ap is_signed e);
      level = c.plain.ensures.level ∙ sym (ap level e);
    }

pub info_at-returns-in-Some : goal.info_at-returns-in-Some
info_at-returns-in-Some t c =
    let e = at_name (named_of c.args.names.now) (scope_ports c.args.scope.now) (scope_ops c.args.scope.now) c.args.extending (scope_ref c.args.scope.now c.args.value) c.args.depth c.in-Some.name.now
    c.if-depth-eq0.false (sym c.in-Some.ensures) in
    record {
      name = c.plain-in-Some.ensures.name ∙ sym (ap sole_name e);
      signed = c.plain-in-Some.ensures.signed ∙ sym (ap is_signed e);
      level = c.plain-in-Some.ensures.level ∙ sym (ap level e);
    }

pub info_at-returns-in-Some-alone_at : goal.info_at-returns-in-Some-alone_at
info_at-returns-in-Some-alone_at t c =
    let e = seen_alone c.args.scope.now c.args.names.now c.args.depth c.args.extending c.args.value c.node_at-node.result.template c.node_at-node.result.operands.now c.if-depth-eq0.false
    c.in_default.ensures c.node_at-node.ensures _ c.in-Some-alone_at.ensures in
    record {
      name = c.info_at.ensures.name ∙ ap sole_name e;
      signed = c.info_at.ensures.signed ∙ ap is_signed e;
      level = c.info_at.ensures.level ∙ ap level e;
    }

pub info_at-returns-in-Some-only_operand : goal.info_at-returns-in-Some-only_operand
info_at-returns-in-Some-only_operand t c =
    let e = seen_same c.args.scope.now c.args.names.now c.args.depth c.args.extending c.args.value c.node_at-node.result.template c.node_at-node.result.operands.now c.if-depth-eq0.false
    c.in_default.ensures c.node_at-node.ensures c.in_default-alone_at.ensures c.in-Some-only_operand.operand c.in-Some-only_operand.ensures.0 c.in-Some-only_operand.ensures.1 in
    record {
      name = c.info_at-in-Some-only_operand.ensures.name ∙ e.0;
      signed = c.info_at-in-Some-only_operand.ensures.signed ∙ e.1;
      level = c.info_at-in-Some-only_operand.ensures.level ∙ e.2;
    }

pub info_at-returns : goal.info_at-returns
info_at-returns t c =
    let e = seen_other c.args.scope.now c.args.names.now c.args.depth c.args.extending c.args.value c.node_at-node.result.template c.node_at-node.result.operands.now c.if-depth-eq0.false
    c.in_default.ensures c.node_at-node.ensures c.in_default-alone_at.ensures c.in_default-only_operand.ensures in
    record {
      name = c.node_info.ensures.name ∙ e.0;
      signed = c.node_info.ensures.signed ∙ e.1;
      level = c.node_info.ensures.level ∙ e.2;
    }

pub is_simple-returns-then-depth-eq0 : goal.is_simple-returns-then-depth-eq0
is_simple-returns-then-depth-eq0 t c =
    sym (ap is_simple (at_zero (named_of c.args.names.now) (scope_ports c.args.scope.now) (scope_ops c.args.scope.now) Off (scope_ref c.args.scope.now c.args.value) c.args.depth c.if-depth-eq0.true))

pub is_simple-returns-in-Some : goal.is_simple-returns-in-Some
is_simple-returns-in-Some t c =
    sym (ap is_simple (at_name (named_of c.args.names.now) (scope_ports c.args.scope.now) (scope_ops c.args.scope.now) Off (scope_ref c.args.scope.now c.args.value) c.args.depth c.in-Some._name.now
    c.if-depth-eq0.false (sym c.in-Some.ensures)))

pub is_simple-returns : goal.is_simple-returns
is_simple-returns t c =
    let s = c.args.scope.now in
    let v = c.args.names.now in
    let n = c.node_at-node.result in
    c.is_simple_template.ensures
    ∙ ap (template_simple n.template) (plain_at s v (c.args.depth - 1) Off n.template n.operands.now 0 n.operands.now)
    ∙ sym (own_simple s v c.args.depth Off c.args.value n.template n.operands.now c.if-depth-eq0.false c.in_default.ensures c.node_at-node.ensures refl)
