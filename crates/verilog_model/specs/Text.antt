-- The text of an expression: one blank on each side of a binary operator, of `?` and of `:` in `?:`, one after a comma,
-- and none elsewhere. The rest of the text is an argument.
use Rattle.std.specs.Prelude.{ℕ, List, [], ◌∷◌, ◌++◌, codes}
use Rattle.verilog_model.specs.Tree.{Operator, Expr, Exprs}
use Rattle.verilog_model.specs.Tree.Operator.{times, over, modulo, plus, minus, left_shift, right_shift, signed_right_shift, below, at_most, above, at_least, equals, differs, bit_and, bit_xor, bit_or}
use Rattle.verilog_model.specs.Tree.Expr.{name, bit_select, part_select, literal, joined, repeated, as_signed, as_unsigned, paren, odd, binary, choice}
use Rattle.verilog_model.specs.Tree.Exprs.{last, more}
use Rattle.verilog_model.specs.Grammar.{base_mark}

-- the operator between blanks
abbrev pub operator_text : Operator → List ℕ
operator_text times = codes " * "
operator_text over = codes " / "
operator_text modulo = codes " % "
operator_text plus = codes " + "
operator_text minus = codes " - "
operator_text left_shift = codes " << "
operator_text right_shift = codes " >> "
operator_text signed_right_shift = codes " >>> "
operator_text below = codes " < "
operator_text at_most = codes " <= "
operator_text above = codes " > "
operator_text at_least = codes " >= "
operator_text equals = codes " == "
operator_text differs = codes " != "
operator_text bit_and = codes " & "
operator_text bit_xor = codes " ^ "
operator_text bit_or = codes " | "

-- the question mark of a choice between blanks (IEEE 1364-2005, 5.1.13: conditional operator)
abbrev pub question_text : List ℕ
question_text = 32 ∷ 63 ∷ 32 ∷ []

unfoldable mutual
  pub expr_text : Expr → List ℕ → List ℕ
  expr_text (name n) bs = n ++ bs
  expr_text (bit_select n k) bs = n ++ (codes "[" ++ (k ++ (codes "]" ++ bs)))
  expr_text (part_select n h l) bs = n ++ (codes "[" ++ (h ++ (codes ":" ++ (l ++ (codes "]" ++ bs)))))
  expr_text (literal w s h) bs = w ++ (base_mark s ++ (h ++ bs))
  expr_text (joined es) bs = codes "{" ++ exprs_text es (codes "}" ++ bs)
  expr_text (repeated n es) bs = codes "{" ++ (n ++ (codes "{" ++ exprs_text es (codes "}}" ++ bs)))
  expr_text (as_signed e) bs = codes "$signed(" ++ expr_text e (codes ")" ++ bs)
  expr_text (as_unsigned e) bs = codes "$unsigned(" ++ expr_text e (codes ")" ++ bs)
  expr_text (paren e) bs = codes "(" ++ expr_text e (codes ")" ++ bs)
  expr_text (odd e) bs = codes "^" ++ expr_text e bs
  expr_text (binary o a b) bs = expr_text a (operator_text o ++ expr_text b bs)
  expr_text (choice c a b) bs = expr_text c (question_text ++ expr_text a (codes " : " ++ expr_text b bs))

  pub exprs_text : Exprs → List ℕ → List ℕ
  exprs_text (last e) bs = expr_text e bs
  exprs_text (more e es) bs = expr_text e (codes ", " ++ exprs_text es bs)
