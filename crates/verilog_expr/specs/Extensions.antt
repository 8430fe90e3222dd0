-- Where a zero extension, a concatenation of a zero constant and a name or a literal, may be written as its second operand
-- alone: where the context gives the full width, in which names and literals are extended with zeros (IEEE 1364-2005, 5.4.1,
-- 5.5.2). Operators push that width on to some of their operands, and two operands that are compared give theirs to each
-- other.
use Rattle.std.specs.Prelude.{ℕ, Bool, true, false, cond, not, ◌&&◌, ◌||◌, ◌==◌, Option, Some, None}
use Rattle.bits_core.specs.Word.{number, bits_of_ℤ}
use Rattle.hw_model.specs.Kinds.{Kind}
use Rattle.hw_model.specs.Kinds.Kind.{variadic, sub, division, shift, icmp, extract, concat, mux, constant, bitcast, wire}
use Rattle.hw_model.specs.Design.{Op}
use Rattle.verilog_model.specs.Tree.{Expr}
use Rattle.verilog_model.specs.Tree.Expr.{name, literal}
use Rattle.verilog_expr.specs.Building.{is_signed_division, is_signed_shift}
use Rattle.verilog_expr.specs.Signs.{is_signed_order}
use Rattle.verilog_expr.specs.declared.extending.Extending.{Extending}
use Rattle.verilog_expr.specs.declared.extending.Extending.TheVariants.{Off, Own, Given}

-- whether the context of an expression gives the full width
abbrev pub is_given : Extending → Bool
is_given Off = false
is_given Own = false
is_given Given = true

-- whether an expression is a name or an unsigned literal
abbrev pub is_simple : Expr → Bool
is_simple (name n) = true
is_simple (literal w s h) = not s
is_simple _ = false

-- whether an operation passes the width of its context on to the operand of a number
abbrev pub passes_width : Kind → ℕ → Bool
passes_width (variadic v) i = true
passes_width sub i = true
passes_width (division d) i = not (is_signed_division d) && (i == 0)
passes_width (shift s) i = not (is_signed_shift s) && (i == 0)
passes_width mux i = not (i == 0)
passes_width (extract low) i = true
passes_width bitcast i = true
passes_width wire i = true
passes_width _ i = false

-- whether an operation compares its operands as unsigned ones
abbrev pub compares_unsigned : Kind → Bool
compares_unsigned (icmp p) = not (is_signed_order p)
compares_unsigned _ = false

-- where an operand of an operation stands, which another one may lend the full width
abbrev pub place_of : Extending → Kind → ℕ → Bool → Extending
place_of Off kind i lends = Off
place_of Own kind i lends = cond (compares_unsigned kind && lends) Given Own
place_of Given kind i lends = cond (passes_width kind i || (compares_unsigned kind && lends)) Given Own

abbrev pub is_concat : Kind → Bool
is_concat concat = true
is_concat _ = false

-- whether a kind is that of a constant of w bits that is 0
abbrev pub is_zero_kind : Kind → ℕ → Bool
is_zero_kind (constant z) w = number (bits_of_ℤ w z) == 0
is_zero_kind _ w = false

abbrev pub is_zero_in : Option Op → ℕ → Bool
is_zero_in None w = false
is_zero_in (Some o) w = is_zero_kind o.kind w

-- an expression that stands in place of another one where the context gives the full width
abbrev pub alone_under : Extending → Option Expr → Option Expr
alone_under Off m = None
alone_under Own m = None
alone_under Given m = m

abbrev pub expr_or : Option Expr → Expr → Expr
expr_or None e = e
expr_or (Some f) e = f

-- an expression, or where there is one and the context gives the full width another one
abbrev pub alone_or : Extending → Option Expr → Expr → Expr
alone_or x m e = expr_or (alone_under x m) e
