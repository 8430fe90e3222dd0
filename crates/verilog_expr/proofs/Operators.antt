-- The operators of families: what their operands have in common, the operations that they compute, and their values of code.
use Rattle.std.proofs.Common.{◌≡◌, ℕ, Bool, true, false, length, refl, arith}
use Rattle.bits_core.specs.Word.{Word}
use Rattle.bits_core.proofs.Arithmetic.{length-quotient, length-rest, length-signed_quotient, length-signed_rest}
use Rattle.bits_core.proofs.Shifts.{length-shift_left, length-shift_right, length-shift_right_signed}
use Rattle.hw_model.specs.Kinds.{Variadic, Division, Shift}
use Rattle.hw_model.specs.Value.{division_value, shift_value}
use Rattle.verilog_model.specs.Tree.{Operator}
use Rattle.verilog_model.specs.Tree.Operator.{times, over, modulo, left_shift, right_shift, signed_right_shift}
use Rattle.verilog_model.specs.Checks.{divides}
use Rattle.verilog_model.specs.Expression.{context_of, arithmetic, shift_word}
use Rattle.verilog_model.specs.Expression.Context.{both_operands, left_operand}
use Rattle.verilog_expr.specs.Building.{variadic_operator, division_operator, shift_operator, is_signed_division, is_signed_shift}
use Rattle.verilog_expr.specs.Forms.{operator_of, operator_in_code}

pub variadic_context : (v : Variadic) → context_of (variadic_operator v) ≡ both_operands
variadic_context v = grind arith

pub division_context : (d : Division) → context_of (division_operator d) ≡ both_operands
division_context d = grind arith

pub shift_context : (s : Shift) → context_of (shift_operator s) ≡ left_operand
shift_context s = grind arith

-- some divide, the others do not
pub divides_division : (d : Division) → divides (division_operator d) ≡ true
divides_division d = grind arith

pub plain_operator : (v : Variadic) → divides (variadic_operator v) ≡ false
plain_operator v = grind arith

pub plain_shift : (s : Shift) → divides (shift_operator s) ≡ false
plain_shift s = grind arith

-- an operator computes its operation
pub division_computes : (d : Division) (x y : Word) → arithmetic (division_operator d) (is_signed_division d) x y ≡ division_value d x y
division_computes d x y = grind arith

pub shift_computes : (s : Shift) (x : Word) (n : ℕ) → shift_word (shift_operator s) (is_signed_shift s) x n ≡ shift_value s x n
shift_computes s x n = grind arith

-- a quotient and a remainder are as long as what is divided
pub length-divided : (o : Operator) (s : Bool) (x y : Word) → divides o ≡ true → length (arithmetic o s x y) ≡ length x
length-divided over true x y h = length-signed_quotient x y
length-divided over false x y h = length-quotient x y
length-divided modulo true x y h = length-signed_rest x y
length-divided modulo false x y h = length-rest x y
length-divided _ s x y h = cc

-- what is shifted stays as long
pub length-shifted : (o : Operator) (s : Bool) (x : Word) (n : ℕ) → context_of o ≡ left_operand → length (shift_word o s x n) ≡ length x
length-shifted left_shift s x n h = length-shift_left x n
length-shifted right_shift s x n h = length-shift_right x n
length-shifted signed_right_shift true x n h = length-shift_right_signed x n
length-shifted signed_right_shift false x n h = length-shift_right x n
length-shifted _ s x n h = cc

-- the operator that a value of code stands for, found back
pub operator_back : (o : Operator) → operator_of (operator_in_code o) ≡ o
operator_back times = refl
operator_back _ = refl
