-- Which operands stand under one sign with what stands round them (IEEE 1364-2005, 5.5: signed expressions).
use Rattle.std.specs.Prelude.{ℕ, Bool, true, false, not, ◌&&◌, ◌==◌}
use Rattle.hw_model.specs.Kinds.{Kind, Predicate}
use Rattle.hw_model.specs.Kinds.Predicate.{slt, sle, sgt, sge}
use Rattle.hw_model.specs.Kinds.Kind.{variadic, sub, division, shift, icmp, mux}
use Rattle.verilog_model.specs.Tree.{Expr, Exprs}
use Rattle.verilog_model.specs.Tree.Expr.{name, bit_select, part_select, literal, joined, repeated, as_signed, as_unsigned, paren, odd, binary, choice}
use Rattle.verilog_model.specs.Tree.Exprs.{last, more}
use Rattle.verilog_model.specs.Expression.{Context, context_of, is_signed}
use Rattle.verilog_expr.specs.Building.{is_signed_division, is_signed_shift}
use Rattle.verilog_model.specs.Expression.Context.{both_operands, left_operand, no_operand}

-- whether both hold or neither does
abbrev pub alike : Bool → Bool → Bool
alike true b = b
alike false b = not b

-- whether both operands of an operator keep their signs: those that stand in one context, or are compared, are both signed
-- or both unsigned
abbrev pub signs_kept : Context → Bool → Bool → Bool
signs_kept both_operands a b = alike a b
signs_kept left_operand a b = true
signs_kept no_operand a b = alike a b

-- whether what stands round an operand changes its sign nowhere in an expression
abbrev mutual
  pub keeps_signs : Expr → Bool
  keeps_signs (name n) = true
  keeps_signs (bit_select n k) = true
  keeps_signs (part_select n h l) = true
  keeps_signs (literal w s h) = true
  keeps_signs (joined es) = all_keep_signs es
  keeps_signs (repeated n es) = all_keep_signs es
  keeps_signs (as_signed e) = keeps_signs e
  keeps_signs (as_unsigned e) = keeps_signs e
  keeps_signs (paren e) = keeps_signs e
  keeps_signs (odd e) = keeps_signs e
  keeps_signs (binary o a b) = signs_kept (context_of o) (is_signed a) (is_signed b) && (keeps_signs a && keeps_signs b)
  keeps_signs (choice c a b) = alike (is_signed a) (is_signed b) && (keeps_signs c && (keeps_signs a && keeps_signs b))

  pub all_keep_signs : Exprs → Bool
  all_keep_signs (last e) = keeps_signs e
  all_keep_signs (more e es) = keeps_signs e && all_keep_signs es

-- ---- kinds

-- whether the expression of an operation is signed: of a signed division or shift. An operand that stands as it is keeps its
-- own sign
abbrev pub is_signed_kind : Kind → Bool
is_signed_kind (division d) = is_signed_division d
is_signed_kind (shift s) = is_signed_shift s
is_signed_kind _ = false

abbrev pub is_signed_order : Predicate → Bool
is_signed_order slt = true
is_signed_order sle = true
is_signed_order sgt = true
is_signed_order sge = true
is_signed_order _ = false

-- whether the operand of a number stands where an unsigned one is asked for: all of arithmetic and bitwise operators, of
-- unsigned divisions and comparisons, what is shifted without its sign, and both values of a choice
abbrev pub is_unsigned_position : Kind → ℕ → Bool
is_unsigned_position (variadic v) i = true
is_unsigned_position sub i = true
is_unsigned_position (division d) i = not (is_signed_division d)
is_unsigned_position (shift s) i = not (is_signed_shift s) && (i == 0)
is_unsigned_position (icmp p) i = not (is_signed_order p)
is_unsigned_position mux i = not (i == 0)
is_unsigned_position _ i = false
