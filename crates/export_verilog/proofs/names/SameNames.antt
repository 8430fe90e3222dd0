-- Expressions depend on nothing of the names of values but which name each value has.
use Rattle.std.proofs.Common.{◌≡◌, ℕ, zero, suc, List, map, Option, Some, None, slice_get, refl, ◌∙◌, ap, ap₂}
use Rattle.hw_model.specs.Types.{Name, HwType, width}
use Rattle.hw_model.specs.Design.{Ref, Port, Op, result_type}
use Rattle.hw_model.specs.Design.Ref.{port, result, undefined}
use Rattle.verilog_model.specs.Tree.{Expr}
use Rattle.verilog_expr.specs.Building.{kind_expr}
use Rattle.verilog_expr.specs.Extensions.{alone_or}
use Rattle.verilog_expr.specs.declared.extending.Extending.{Extending}
use Rattle.verilog_expr.specs.declared.extending.Extending.TheVariants.{Off}
use Rattle.verilog_expr.specs.Expressions.{value_width, divisor_in, name_or, typed_expr, result_expr, own_expr, expr_to}
use Rattle.verilog_expr.proofs.Extended.{same_placed, extended_same, lends_same}

module _ (named other : Ref → Option Name) (ports : List Port) (os : List Op) where
  typed_same : (f g : Extending → Ref → Expr) → ((x : Extending) (r : Ref) → f x r ≡ g x r) → (x : Extending) (o : Op) (t : Option HwType)
      → typed_expr named ports os f x o t ≡ typed_expr other ports os g x o t
  typed_same f g same x o None = refl
  typed_same f g same x o (Some t) =
      ap₂ (λ m es. alone_or x m (kind_expr o.kind (width t) (map (value_width ports os) o.operands) (divisor_in os (width t) o.operands) es))
      (extended_same ports os f g o.kind o.operands (λ r here. same Off r))
      (same_placed f o.kind g x o.operands 0 o.operands (lends_same ports os f g o.operands (λ r here. same Off r)) (λ r here y. same y r))

  result_same : (f g : Extending → Ref → Expr) → ((x : Extending) (r : Ref) → f x r ≡ g x r) → (x : Extending) (k : ℕ) (o : Option Op)
      → result_expr named ports os f x k o ≡ result_expr other ports os g x k o
  result_same f g same x k None = refl
  result_same f g same x k (Some o) = typed_same f g same x o (result_type o k)

  pub own_same : (f g : Extending → Ref → Expr) → ((x : Extending) (r : Ref) → f x r ≡ g x r) → (x : Extending) (r : Ref) → own_expr named ports os f x r ≡ own_expr other ports os g x r
  own_same f g same x (result i k) = result_same f g same x k (slice_get os i)
  own_same f g same x (port j) = refl
  own_same f g same x undefined = refl

  pub expr_same : ((r : Ref) → named r ≡ other r) → (n : ℕ) (x : Extending) (r : Ref) → expr_to named ports os n x r ≡ expr_to other ports os n x r
  unfolding expr_to
  expr_same same zero x r = refl
  expr_same same (suc n) x r =
      ap (λ z. name_or z (own_expr named ports os (expr_to named ports os n) x r)) (same r)
      ∙ ap (name_or (other r)) (own_same (expr_to named ports os n) (expr_to other ports os n) (expr_same same n) x r)
