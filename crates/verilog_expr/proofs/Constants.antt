-- The literal of a constant is what is assigned to its name.
use Rattle.std.proofs.Common.{◌≡◌, ℕ, ℤ, false, List, map, slice_get, Option, Some, sym, ◌∙◌, ap, option_and_then}
use Rattle.hw_model.specs.Types.{Name, HwType, width}
use Rattle.hw_model.specs.Kinds.Kind.{constant}
use Rattle.hw_model.specs.Design.{Ref, Port, Op, result_type}
use Rattle.hw_model.specs.Design.Ref.{result}
use Rattle.hw_model.specs.Flat.{width_of}
use Rattle.verilog_model.specs.Tree.{Expr}
use Rattle.verilog_model.specs.Digits.{literal_of}
use Rattle.verilog_expr.specs.Building.{kind_expr}
use Rattle.verilog_expr.specs.Extensions.{is_concat, alone_or}
use Rattle.verilog_expr.specs.declared.extending.Extending.{Extending}
use Rattle.verilog_expr.specs.Expressions.{value_width, constant_number, constant_of, constant_expr, divisor_in, operand_exprs, op_expr, typed_expr, result_expr, own_expr}
use Rattle.verilog_expr.proofs.Extended.{alone_none, not_extended}

pub constant_own : (named : Ref → Option Name) (ports : List Port) (os : List Op) (ex : Extending → Ref → Expr) (x : Extending) (i : ℕ) (o : Op) (z : ℤ) (t : HwType)
    → slice_get os i ≡ Some o → o.kind ≡ constant z → result_type o 0 ≡ Some t → constant_expr ports os (result i 0) ≡ own_expr named ports os ex x (result i 0)
constant_own named ports os ex x i o z t there kind typed =
    ap (λ w. literal_of w false (constant_of (slice_get os i) w)) (ap (λ y. width_of (option_and_then (λ (q : Op). result_type q 0) y)) there ∙ ap width_of typed)
    ∙ ap (λ y. literal_of (width t) false (constant_of y (width t))) there
    ∙ ap (λ k. literal_of (width t) false (constant_number k (width t))) kind
    ∙ sym (ap (result_expr named ports os ex x 0) there ∙ ap (typed_expr named ports os ex x o) typed
    ∙ ap (λ m. alone_or x m (op_expr named ports os ex x o (width t))) (not_extended ports os ex o.kind o.operands (ap is_concat kind))
    ∙ alone_none x (op_expr named ports os ex x o (width t))
    ∙ ap (λ k. kind_expr k (width t) (map (value_width ports os) o.operands) (divisor_in os (width t) o.operands) (operand_exprs x ex o.kind o.operands 0 o.operands)) kind)
