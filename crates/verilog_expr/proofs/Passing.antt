-- A test of expressions that passes to what is made of expressions for which it holds passes to the expression of each operation.
use Rattle.std.proofs.Common.{◌≡◌, ℕ, ◌/◌, Bool, true, false, List, decimal}
use Rattle.wiring.specs.Wiring.{In}
use Rattle.bits_core.specs.Word.{number, bits_of_ℤ}
use Rattle.hw_model.specs.Kinds.{Kind, Predicate, Shift}
use Rattle.hw_model.specs.Kinds.Predicate.{eq, ne, slt, sle, sgt, sge, ult, ule, ugt, uge, ceq, cne, weq, wne}
use Rattle.hw_model.specs.Kinds.Kind.{variadic, sub, division, shift, icmp, parity, extract, concat, replicate, mux, constant, bitcast, wire}
use Rattle.verilog_model.specs.Tree.{Operator, Expr}
use Rattle.verilog_model.specs.Tree.Operator.{minus, below, at_most, above, at_least, equals, differs}
use Rattle.verilog_model.specs.Tree.Expr.{repeated, odd}
use Rattle.verilog_model.specs.Tree.Exprs.{last}
use Rattle.verilog_model.specs.Grammar.{primary_level}
use Rattle.verilog_model.specs.Digits.{literal_of}
use Rattle.verilog_expr.specs.Building.{no_expr, parenthesize, unsigned_pair, variadic_expr, signed_pair, comparison, select_bits, concatenation, conditional, first_width, kind_expr}
use Rattle.verilog_expr.specs.Building.{division_expr, shift_expr, variadic_operator, division_operator, shift_operator, is_signed_division, is_signed_shift}
use Rattle.verilog_expr.proofs.Carried.{one_holds, two_hold, three_hold}

-- such a test
pub record Passes (p : Expr → Bool) : Type 0 where
  pub none : p no_expr ≡ true
  pub numeral : (w n : ℕ) → p (literal_of w false n) ≡ true
  pub chained : (o : Operator) (es : List Expr) → ((e : Expr) → In e es → p e ≡ true) → p (variadic_expr o es) ≡ true
  pub paired : (o : Operator) (a b : Expr) → p a ≡ true → p b ≡ true → p (unsigned_pair o a b) ≡ true
  pub signed : (o : Operator) (a b : Expr) → p a ≡ true → p b ≡ true → p (signed_pair o a b) ≡ true
  pub divided : (s : Bool) (o : Operator) (w divisor : ℕ) (a : Expr) → p a ≡ true → p (division_expr s o w divisor a) ≡ true
  pub shifted : (s : Shift) (a b : Expr) → p a ≡ true → p b ≡ true → p (shift_expr (is_signed_shift s) (shift_operator s) a b) ≡ true
  pub counted : (a : Expr) → p a ≡ true → p (odd (parenthesize primary_level a)) ≡ true
  pub selected : (low v w : ℕ) (a : Expr) → p a ≡ true → p (select_bits low v w a) ≡ true
  pub listed : (es : List Expr) → ((e : Expr) → In e es → p e ≡ true) → p (concatenation es) ≡ true
  pub copied : (w v : ℕ) (a : Expr) → p a ≡ true → p (repeated (decimal (w / v)) (last a)) ≡ true
  pub chosen : (c a b : Expr) → p c ≡ true → p a ≡ true → p b ≡ true → p (conditional c a b) ≡ true

module _ (p : Expr → Bool) (passes : Passes p) where
  compared : (c : Predicate) (a b : Expr) → p a ≡ true → p b ≡ true → p (comparison c a b) ≡ true
  compared eq a b first second = passes.paired equals a b first second
  compared ne a b first second = passes.paired differs a b first second
  compared slt a b first second = passes.signed below a b first second
  compared sle a b first second = passes.signed at_most a b first second
  compared sgt a b first second = passes.signed above a b first second
  compared sge a b first second = passes.signed at_least a b first second
  compared ult a b first second = passes.paired below a b first second
  compared ule a b first second = passes.paired at_most a b first second
  compared ugt a b first second = passes.paired above a b first second
  compared uge a b first second = passes.paired at_least a b first second
  compared ceq a b first second = passes.paired equals a b first second
  compared cne a b first second = passes.paired differs a b first second
  compared weq a b first second = passes.paired equals a b first second
  compared wne a b first second = passes.paired differs a b first second

  pub built_passes : (kind : Kind) (w : ℕ) (ws : List ℕ) (divisor : ℕ) (es : List Expr) → ((e : Expr) → In e es → p e ≡ true) → p (kind_expr kind w ws divisor es) ≡ true
  built_passes (variadic v) w ws divisor es all = passes.chained (variadic_operator v) es all
  built_passes sub w ws divisor es all = two_hold p passes.none _ (passes.paired minus) es all
  built_passes (division d) w ws divisor es all =
      two_hold p passes.none _ (λ a b first second. passes.divided (is_signed_division d) (division_operator d) w divisor a first) es all
  built_passes (shift s) w ws divisor es all = two_hold p passes.none _ (passes.shifted s) es all
  built_passes (icmp c) w ws divisor es all = two_hold p passes.none _ (compared c) es all
  built_passes parity w ws divisor es all = one_holds p passes.none _ passes.counted es all
  built_passes (extract low) w ws divisor es all = one_holds p passes.none _ (passes.selected low (first_width ws) w) es all
  built_passes concat w ws divisor es all = passes.listed es all
  built_passes replicate w ws divisor es all = one_holds p passes.none _ (passes.copied w (first_width ws)) es all
  built_passes mux w ws divisor es all = three_hold p passes.none _ passes.chosen es all
  built_passes (constant z) w ws divisor es all = passes.numeral w (number (bits_of_ℤ w z))
  built_passes bitcast w ws divisor es all = one_holds p passes.none _ (λ a holds. holds) es all
  built_passes wire w ws divisor es all = one_holds p passes.none _ (λ a holds. holds) es all
  built_passes _ w ws divisor es all = passes.none
