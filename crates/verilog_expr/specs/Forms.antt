-- How the expression of an operation is laid out round its operands.
use Rattle.std.specs.Prelude.{ℕ, ◌+◌, Bool, true, false, cond, not, ◌==◌, List, [], ◌∷◌, ◌++◌, decimal, codes}
use Rattle.verilog_model.specs.Tree as tree
use Rattle.verilog_model.specs.Tree.{Expr}
use Rattle.verilog_model.specs.Tree.Operator.{times, over, modulo, plus, minus, left_shift, right_shift, signed_right_shift, below, at_most, above, at_least, equals, differs, bit_and, bit_xor, bit_or}
use Rattle.verilog_model.specs.Grammar.{strength}
use Rattle.verilog_model.specs.Digits.{literal_of}
use Rattle.verilog_expr.specs.Building.{unsigned, parenthesize}
use Rattle.verilog_model.specs.Text.{question_text, operator_text, expr_text}
use Rattle.verilog_expr.specs.declared.form.Operator.{Operator}
use Rattle.verilog_expr.specs.declared.form.Operator.TheVariants as signs
use Rattle.verilog_expr.specs.declared.form.Form.{Form}
use Rattle.verilog_expr.specs.declared.form.Form.TheVariants.{Same, Chain, SignedPair, UnsignedShift, SignedShift, UnsignedDivision, SignedDivision, Parity, Braces, Copies, Choice}

-- the operator that a value of code stands for
abbrev pub operator_of : Operator → tree.Operator
operator_of signs.Times = times
operator_of signs.Over = over
operator_of signs.Modulo = modulo
operator_of signs.Plus = plus
operator_of signs.Minus = minus
operator_of signs.LeftShift = left_shift
operator_of signs.RightShift = right_shift
operator_of signs.SignedRightShift = signed_right_shift
operator_of signs.Below = below
operator_of signs.AtMost = at_most
operator_of signs.Above = above
operator_of signs.AtLeast = at_least
operator_of signs.Equals = equals
operator_of signs.Differs = differs
operator_of signs.BitAnd = bit_and
operator_of signs.BitXor = bit_xor
operator_of signs.BitOr = bit_or

-- the value of code that stands for an operator
abbrev pub operator_in_code : tree.Operator → Operator
operator_in_code times = signs.Times
operator_in_code over = signs.Over
operator_in_code modulo = signs.Modulo
operator_in_code plus = signs.Plus
operator_in_code minus = signs.Minus
operator_in_code left_shift = signs.LeftShift
operator_in_code right_shift = signs.RightShift
operator_in_code signed_right_shift = signs.SignedRightShift
operator_in_code below = signs.Below
operator_in_code at_most = signs.AtMost
operator_in_code above = signs.Above
operator_in_code at_least = signs.AtLeast
operator_in_code equals = signs.Equals
operator_in_code differs = signs.Differs
operator_in_code bit_and = signs.BitAnd
operator_in_code bit_xor = signs.BitXor
operator_in_code bit_or = signs.BitOr

-- ---- the positions of operands

-- whether the operand of a number is to be unsigned
abbrev pub asks_unsigned : Form → ℕ → Bool
asks_unsigned (Chain o) i = true
asks_unsigned (UnsignedShift o) i = i == 0
asks_unsigned (UnsignedDivision o w d) i = true
asks_unsigned Choice i = not (i == 0)
asks_unsigned _ i = false

-- how strongly the operand of a number has to bind
abbrev pub asks_level : Form → ℕ → ℕ
asks_level (Chain o) i = cond (i == 0) (strength (operator_of o)) (strength (operator_of o) + 1)
asks_level (UnsignedShift o) i = cond (i == 0) (strength (operator_of o)) (strength (operator_of o) + 1)
asks_level (SignedShift o) i = cond (i == 0) 0 (strength (operator_of o) + 1)
asks_level (UnsignedDivision o w d) i = strength (operator_of o)
asks_level Parity i = 11
asks_level Choice i = cond (i == 0) 2 (cond (i == 1) 0 1)
asks_level _ i = 0

-- an expression in a position that asks for an unsigned one or not, and for so much binding strength
abbrev pub in_position : Bool → ℕ → Expr → Expr
in_position u l e = parenthesize l (cond u (unsigned e) e)

-- ---- what stands round operands

-- before the operand of a number
abbrev pub before : Form → ℕ → List ℕ
before Same i = []
before (Chain o) i = cond (i == 0) [] (operator_text (operator_of o))
before (SignedPair o) i = cond (i == 0) (codes "$signed(") (codes ")" ++ (operator_text (operator_of o) ++ codes "$signed("))
before (UnsignedShift o) i = cond (i == 0) [] (operator_text (operator_of o))
before (SignedShift o) i = cond (i == 0) (codes "$signed(") (codes ")" ++ operator_text (operator_of o))
before (UnsignedDivision o w d) i = []
before (SignedDivision o w d) i = codes "$signed("
before Parity i = codes "^"
before Braces i = cond (i == 0) (codes "{") (codes ", ")
before (Copies n) i = codes "{" ++ (decimal n ++ codes "{")
before Choice i = cond (i == 0) [] (cond (i == 1) question_text (codes " : "))

-- after the last operand
abbrev pub text_after : Form → List ℕ
text_after (SignedPair o) = codes ")"
text_after (UnsignedDivision o w d) = operator_text (operator_of o) ++ expr_text (literal_of w false d) []
text_after (SignedDivision o w d) = codes ")" ++ (operator_text (operator_of o) ++ expr_text (literal_of w true d) [])
text_after Braces = codes "}"
text_after (Copies n) = codes "}}"
text_after _ = []

-- the text of an expression in the place of the operand of a number
abbrev pub operand_text : Form → ℕ → Expr → List ℕ
operand_text f i e = expr_text (in_position (asks_unsigned f i) (asks_level f i) e) []

-- the text of operands, of which the first has this number, and of what stands after them
abbrev pub form_text : Form → ℕ → List Expr → List ℕ
form_text f i [] = text_after f
form_text f i (e ∷ es) = before f i ++ (operand_text f i e ++ form_text f (i + 1) es)
