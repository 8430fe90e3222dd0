-- The expression of a pure operation, from the expressions of its operands (IEEE 1364-2005, 5.1: operators; 5.4 and 5.5:
-- widths and signs). An operand whose width or sign the context would change is made unsigned where it is signed; every
-- other operand stands as it is. Parentheses stand only where the precedence of operators asks for them (5.1.2).
use Rattle.std.specs.Prelude.{ℕ, suc, ◌+◌, ◌-◌, ◌/◌, Bool, true, false, cond, ◌&&◌, ◌==◌, nat_le, List, [], ◌∷◌, decimal, codes}
use Rattle.bits_core.specs.Word.{number, bits_of_ℤ}
use Rattle.hw_model.specs.Kinds.{Kind, Predicate, Variadic, Division, Shift}
use Rattle.hw_model.specs.Kinds.Predicate.{eq, ne, slt, sle, sgt, sge, ult, ule, ugt, uge, ceq, cne, weq, wne}
use Rattle.hw_model.specs.Kinds.Variadic.{add, mul, and, or, xor}
use Rattle.hw_model.specs.Kinds.Division.{divu, modu, divs, mods}
use Rattle.hw_model.specs.Kinds.Shift.{shl, shru, shrs}
use Rattle.hw_model.specs.Kinds.Kind.{variadic, sub, division, shift, icmp, parity, extract, concat, replicate, mux, constant, bitcast, wire}
use Rattle.verilog_model.specs.Digits.{literal_of}
use Rattle.verilog_model.specs.Tree.{Operator, Expr, Exprs}
use Rattle.verilog_model.specs.Tree.Operator.{times, over, modulo, plus, minus, left_shift, right_shift, signed_right_shift, below, at_most, above, at_least, equals, differs, bit_and, bit_xor, bit_or}
use Rattle.verilog_model.specs.Tree.Expr.{name, bit_select, part_select, literal, joined, repeated, as_signed, as_unsigned, paren, odd, binary, choice}
use Rattle.verilog_model.specs.Tree.Exprs.{last, more}
use Rattle.verilog_model.specs.Grammar.{level, strength, choice_level, primary_level}
use Rattle.verilog_model.specs.Expression.{is_signed}

-- ---- operands

-- in place of what is not there: no bits
abbrev pub no_expr : Expr
no_expr = literal (codes "0") false (codes "0")

-- the expression made unsigned
abbrev pub unsigned : Expr → Expr
unsigned e = cond (is_signed e) (as_unsigned e) e

-- the expression in a position that asks for so much binding strength
abbrev pub parenthesize : ℕ → Expr → Expr
parenthesize l e = cond (nat_le l (level e)) e (paren e)

abbrev pub unsigned_at : ℕ → Expr → Expr
unsigned_at l e = parenthesize l (unsigned e)

abbrev pub of_one_expr : (Expr → Expr) → List Expr → Expr
of_one_expr f (a ∷ []) = f a
of_one_expr f _ = no_expr

abbrev pub of_two_exprs : (Expr → Expr → Expr) → List Expr → Expr
of_two_exprs f (a ∷ b ∷ []) = f a b
of_two_exprs f _ = no_expr

abbrev pub of_three_exprs : (Expr → Expr → Expr → Expr) → List Expr → Expr
of_three_exprs f (a ∷ b ∷ c ∷ []) = f a b c
of_three_exprs f _ = no_expr

-- ---- templates

-- an operator between unsigned operands; the right one stands in parentheses where it binds equally
abbrev pub unsigned_pair : Operator → Expr → Expr → Expr
unsigned_pair o a b = binary o (unsigned_at (strength o) a) (unsigned_at (suc (strength o)) b)

-- `a + b + c`: an operator between operands, to the left
abbrev pub chain : Operator → Expr → List Expr → Expr
chain o a [] = a
chain o a (b ∷ bs) = chain o (binary o a (unsigned_at (suc (strength o)) b)) bs

-- one operand stands as it is
abbrev pub variadic_expr : Operator → List Expr → Expr
variadic_expr o [] = no_expr
variadic_expr o (a ∷ []) = a
variadic_expr o (a ∷ b ∷ bs) = chain o (unsigned_at (strength o) a) (b ∷ bs)

-- an operator between two operands made signed
abbrev pub signed_pair : Operator → Expr → Expr → Expr
signed_pair o a b = binary o (as_signed a) (as_signed b)

-- a shift of an unsigned operand, and of one made signed, by an amount that keeps its own width and sign
abbrev pub unsigned_shift : Operator → Expr → Expr → Expr
unsigned_shift o a b = binary o (unsigned_at (strength o) a) (parenthesize (suc (strength o)) b)

abbrev pub signed_shift : Operator → Expr → Expr → Expr
signed_shift o a b = binary o (as_signed a) (parenthesize (suc (strength o)) b)

-- a division by a literal
abbrev pub unsigned_division : Operator → ℕ → ℕ → Expr → Expr
unsigned_division o w divisor a = binary o (unsigned_at (strength o) a) (literal_of w false divisor)

abbrev pub signed_division : Operator → ℕ → ℕ → Expr → Expr
signed_division o w divisor a = binary o (as_signed a) (literal_of w true divisor)

-- a division by a literal, signed or not
abbrev pub division_expr : Bool → Operator → ℕ → ℕ → Expr → Expr
division_expr false o w divisor a = unsigned_division o w divisor a
division_expr true o w divisor a = signed_division o w divisor a

abbrev pub shift_expr : Bool → Operator → Expr → Expr → Expr
shift_expr false o a b = unsigned_shift o a b
shift_expr true o a b = signed_shift o a b

abbrev pub comparison : Predicate → Expr → Expr → Expr
comparison eq a b = unsigned_pair equals a b
comparison ne a b = unsigned_pair differs a b
comparison slt a b = signed_pair below a b
comparison sle a b = signed_pair at_most a b
comparison sgt a b = signed_pair above a b
comparison sge a b = signed_pair at_least a b
comparison ult a b = unsigned_pair below a b
comparison ule a b = unsigned_pair at_most a b
comparison ugt a b = unsigned_pair above a b
comparison uge a b = unsigned_pair at_least a b
comparison ceq a b = unsigned_pair equals a b
comparison cne a b = unsigned_pair differs a b
comparison weq a b = unsigned_pair equals a b
comparison wne a b = unsigned_pair differs a b

-- w bits from bit low of a name
abbrev pub select : ℕ → ℕ → Expr → Expr
select low w (name n) = cond (w == 1) (bit_select n (decimal low)) (part_select n (decimal (low + w - 1)) (decimal low))
select low w _ = no_expr

-- all bits of an operand are the operand, fewer are a select of its name
abbrev pub select_bits : ℕ → ℕ → ℕ → Expr → Expr
select_bits low operand_width w a = cond (low == 0 && w == operand_width) a (select low w a)

abbrev pub exprs_of : Expr → List Expr → Exprs
exprs_of a [] = last a
exprs_of a (b ∷ bs) = more a (exprs_of b bs)

-- `{a, b}`
abbrev pub concatenation : List Expr → Expr
concatenation [] = no_expr
concatenation (a ∷ rest) = joined (exprs_of a rest)

-- a choice (IEEE 1364-2005, 5.1.13), where the middle needs no parentheses and the right one binds as a choice does
abbrev pub conditional : Expr → Expr → Expr → Expr
conditional c a b = choice (parenthesize (suc choice_level) c) (unsigned a) (unsigned_at choice_level b)

abbrev pub first_width : List ℕ → ℕ
first_width [] = 0
first_width (w ∷ ws) = w

-- ---- the operators of families (IEEE 1364-2005, 5.1)

abbrev pub variadic_operator : Variadic → Operator
variadic_operator add = plus
variadic_operator mul = times
variadic_operator and = bit_and
variadic_operator or = bit_or
variadic_operator xor = bit_xor

abbrev pub division_operator : Division → Operator
division_operator divu = over
division_operator modu = modulo
division_operator divs = over
division_operator mods = modulo

abbrev pub shift_operator : Shift → Operator
shift_operator shl = left_shift
shift_operator shru = right_shift
shift_operator shrs = signed_right_shift

-- whether the operands are made signed
abbrev pub is_signed_division : Division → Bool
is_signed_division divs = true
is_signed_division mods = true
is_signed_division _ = false

abbrev pub is_signed_shift : Shift → Bool
is_signed_shift shrs = true
is_signed_shift _ = false

-- ---- kinds

-- the expression of an operation of a kind with a result of w bits, its operands' widths and expressions being `ws` and
-- `es`, and `divisor` the number of the constant that it divides by
abbrev pub kind_expr : Kind → ℕ → List ℕ → ℕ → List Expr → Expr
kind_expr (variadic v) w ws divisor es = variadic_expr (variadic_operator v) es
kind_expr sub w ws divisor es = of_two_exprs (unsigned_pair minus) es
kind_expr (division d) w ws divisor es = of_two_exprs (λ a b. division_expr (is_signed_division d) (division_operator d) w divisor a) es
kind_expr (shift s) w ws divisor es = of_two_exprs (shift_expr (is_signed_shift s) (shift_operator s)) es
kind_expr (icmp p) w ws divisor es = of_two_exprs (comparison p) es
kind_expr parity w ws divisor es = of_one_expr (λ a. odd (parenthesize primary_level a)) es
kind_expr (extract low) w ws divisor es = of_one_expr (select_bits low (first_width ws) w) es
kind_expr concat w ws divisor es = concatenation es
kind_expr replicate w ws divisor es = of_one_expr (λ a. repeated (decimal (w / first_width ws)) (last a)) es
kind_expr mux w ws divisor es = of_three_exprs conditional es
kind_expr (constant z) w ws divisor es = literal_of w false (number (bits_of_ℤ w z))
kind_expr bitcast w ws divisor es = of_one_expr (λ a. a) es
kind_expr wire w ws divisor es = of_one_expr (λ a. a) es
kind_expr _ w ws divisor es = no_expr
