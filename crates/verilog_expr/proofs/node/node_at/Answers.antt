use Rattle.std.proofs.Common.{◌≡◌, ℕ, Option, refl, sym, ap, ◌∙◌}
use Rattle.hw_model.specs.Types.{Name}
use Rattle.hw_model.specs.Design.{Ref}
use Rattle.ir_store.specs.declared.operation.OpId.{OpId}
use Rattle.ir_store.specs.declared.operation.Value.{Value}
use Rattle.ir_store.specs.declared.operation.Value.TheVariants.{Result, Port, Undefined}
use Rattle.verilog_model.specs.Tree.{Expr}
use Rattle.verilog_expr.specs.Building.{no_expr}
use Rattle.verilog_expr.specs.declared.extending.Extending.{Extending}
use Rattle.verilog_expr.specs.declared.scope.Scope.{Scope}
use Rattle.ir_store.specs.Bodies.{ids_of}
use Rattle.ir_store.specs.Numbered.{position_of}
use Rattle.verilog_expr.specs.Expressions.{result_expr, own_expr}
use Rattle.verilog_expr.specs.Scopes.{scope_ports, scope_ops, scope_ref}
use Rattle.verilog_expr.proofs.Writing.{node_nothing}
use Rattle.verilog_expr.proofs.node.node_at.Goals as goal

pub result_node-requires : goal.result_node-requires
result_node-requires c = record { position = position_of (ids_of c.args.scope.now.ops.body.now) c.in-Result.id.index; there = sym c.in-Some.ensures }

pub returns-in-None : goal.returns-in-None
returns-in-None c =
    let s = c.args.scope.now in
    node_nothing s (scope_ref s c.args.value) c.nothing_node-in-None.result.template c.nothing_node-in-None.result.operands.now
    (λ named ex x. ap (λ v. own_expr named (scope_ports s) (scope_ops s) ex x (scope_ref s v)) c.in-Result.is
    ∙ ap (result_expr named (scope_ports s) (scope_ops s) ex x c.in-Result.number) (sym c.in-None.ensures))
    c.nothing_node-in-None.ensures.template

no_result : (s : Scope) (v : Value) → ((i : OpId) (n : ℕ) → v ≡ Result i n → ⊥) → (named : Ref → Option Name) (ex : Extending → Ref → Expr) (x : Extending)
    → own_expr named (scope_ports s) (scope_ops s) ex x (scope_ref s v) ≡ no_expr
no_result s (Result i n) never named ex x = absurd (never i n refl)
no_result s (Port j) never named ex x = refl
no_result s Undefined never named ex x = refl

pub returns-in_default : goal.returns-in_default
returns-in_default c =
    node_nothing c.args.scope.now (scope_ref c.args.scope.now c.args.value) c.nothing_node.result.template c.nothing_node.result.operands.now
    (no_result c.args.scope.now c.args.value c.in_default.not-Result) c.nothing_node.ensures.template
