-- Which form the expression of an operation has.
use Rattle.std.specs.Prelude.{◌≡◌, ℕ, ◌/◌, Bool, true, false, cond, ◌&&◌, ◌==◌, List, [], ◌∷◌, Option, Some, None}
use Rattle.hw_model.specs.Types.{Name}
use Rattle.bits_core.specs.Word.{number, bits_of_ℤ}
use Rattle.hw_model.specs.Kinds.{Kind, Predicate}
use Rattle.hw_model.specs.Kinds.Predicate.{eq, ne, slt, sle, sgt, sge, ult, ule, ugt, uge, ceq, cne, weq, wne}
use Rattle.hw_model.specs.Kinds.Kind.{variadic, sub, division, shift, icmp, parity, extract, concat, replicate, mux, constant, bitcast, wire}
use Rattle.verilog_model.specs.Tree.{Expr}
use Rattle.verilog_model.specs.Tree.Expr.{name}
use Rattle.verilog_model.specs.Grammar.{level, strength}
use Rattle.verilog_model.specs.Expression.{is_signed}
use Rattle.verilog_model.specs.Digits.{literal_of}
use Rattle.verilog_expr.specs.Building.{no_expr, of_one_expr, select, variadic_operator, division_operator, shift_operator, is_signed_division, is_signed_shift}
use Rattle.verilog_model.specs.Text.{expr_text}
use Rattle.verilog_expr.specs.Extensions.{is_simple}
use Rattle.verilog_expr.specs.Forms.{operator_of, operator_in_code, form_text}
use Rattle.verilog_expr.specs.declared.form.Operator.{Operator}
use Rattle.verilog_expr.specs.declared.form.Operator.TheVariants as signs
use Rattle.verilog_expr.specs.declared.form.Form.{Form}
use Rattle.verilog_expr.specs.declared.form.Form.TheVariants.{Same, Chain, SignedPair, UnsignedShift, SignedShift, UnsignedDivision, SignedDivision, Parity, Braces, Copies, Choice}
use Rattle.verilog_expr.specs.declared.template.Template.{Template}
use Rattle.verilog_expr.specs.declared.template.Template.TheVariants.{Missing, Number, Select, Operands}

-- an operator between any number of operands, of one operand that operand
abbrev pub chain_template : ℕ → Operator → Template
chain_template n o = cond (n == 0) Missing (cond (n == 1) (Operands Same) (Operands (Chain o)))

-- a form that takes so many operands
abbrev pub template_of_count : ℕ → ℕ → Form → Template
template_of_count n m f = cond (n == m) (Operands f) Missing

abbrev pub comparison_form : Predicate → Form
comparison_form eq = Chain signs.Equals
comparison_form ne = Chain signs.Differs
comparison_form slt = SignedPair signs.Below
comparison_form sle = SignedPair signs.AtMost
comparison_form sgt = SignedPair signs.Above
comparison_form sge = SignedPair signs.AtLeast
comparison_form ult = Chain signs.Below
comparison_form ule = Chain signs.AtMost
comparison_form ugt = Chain signs.Above
comparison_form uge = Chain signs.AtLeast
comparison_form ceq = Chain signs.Equals
comparison_form cne = Chain signs.Differs
comparison_form weq = Chain signs.Equals
comparison_form wne = Chain signs.Differs

abbrev pub division_form : Bool → Operator → ℕ → ℕ → Form
division_form false o w divisor = UnsignedDivision o w divisor
division_form true o w divisor = SignedDivision o w divisor

abbrev pub shift_form : Bool → Operator → Form
shift_form false o = UnsignedShift o
shift_form true o = SignedShift o

-- all bits of an operand are the operand, fewer are a select of its name
abbrev pub extract_template : ℕ → ℕ → ℕ → ℕ → Template
extract_template n low w operand_width = cond (n == 1) (cond (low == 0 && w == operand_width) (Operands Same) (Select low w)) Missing

-- the template of an operation of a kind with a result of w bits and n operands, of which the first has v bits, and `divisor`
-- the number of the constant that it divides by
abbrev pub template_for : Kind → ℕ → ℕ → ℕ → ℕ → Template
template_for (variadic o) w v divisor n = chain_template n (operator_in_code (variadic_operator o))
template_for sub w v divisor n = template_of_count n 2 (Chain signs.Minus)
template_for (division d) w v divisor n = template_of_count n 2 (division_form (is_signed_division d) (operator_in_code (division_operator d)) w divisor)
template_for (shift s) w v divisor n = template_of_count n 2 (shift_form (is_signed_shift s) (operator_in_code (shift_operator s)))
template_for (icmp p) w v divisor n = template_of_count n 2 (comparison_form p)
template_for parity w v divisor n = template_of_count n 1 Parity
template_for (extract low) w v divisor n = extract_template n low w v
template_for concat w v divisor n = cond (n == 0) Missing (Operands Braces)
template_for replicate w v divisor n = template_of_count n 1 (Copies (w / v))
template_for mux w v divisor n = template_of_count n 3 Choice
template_for (constant z) w v divisor n = Number w (number (bits_of_ℤ w z))
template_for bitcast w v divisor n = template_of_count n 1 Same
template_for wire w v divisor n = template_of_count n 1 Same
template_for _ w v divisor n = Missing

-- the operands that are written: of a division the first alone
abbrev pub first_alone : List Expr → List Expr
first_alone [] = []
first_alone (e ∷ es) = e ∷ []

abbrev pub shown_operands : Form → List Expr → List Expr
shown_operands (UnsignedDivision o w d) es = first_alone es
shown_operands (SignedDivision o w d) es = first_alone es
shown_operands _ es = es

-- the text of a template over operands
abbrev pub template_text : Template → List Expr → List ℕ
template_text Missing es = expr_text no_expr []
template_text (Number w n) es = expr_text (literal_of w false n) []
template_text (Select low w) es = expr_text (of_one_expr (select low w) es) []
template_text (Operands f) es = form_text f 0 (shown_operands f es)

-- ---- sign and binding strength

abbrev pub first_signed : List Expr → Bool
first_signed [] = false
first_signed (e ∷ es) = is_signed e

abbrev pub first_level : List Expr → ℕ
first_level [] = 11
first_level (e ∷ es) = level e

abbrev pub form_signed : Form → List Expr → Bool
form_signed Same es = first_signed es
form_signed (SignedShift o) es = true
form_signed (SignedDivision o w d) es = true
form_signed _ es = false

abbrev pub form_level : Form → List Expr → ℕ
form_level Same es = first_level es
form_level (Chain o) es = strength (operator_of o)
form_level (SignedPair o) es = strength (operator_of o)
form_level (UnsignedShift o) es = strength (operator_of o)
form_level (SignedShift o) es = strength (operator_of o)
form_level (UnsignedDivision o w d) es = strength (operator_of o)
form_level (SignedDivision o w d) es = strength (operator_of o)
form_level Parity es = 10
form_level Choice es = 1
form_level _ es = 11

abbrev pub template_signed : Template → List Expr → Bool
template_signed (Operands f) es = form_signed f es
template_signed _ es = false

abbrev pub template_level : Template → List Expr → ℕ
template_level (Operands f) es = form_level f es
template_level _ es = 11

-- ---- names and literals

-- the name that an expression is
abbrev pub sole_name : Expr → Option Name
sole_name (name n) = Some n
sole_name _ = None

-- the name that an operation's expression is: that of its one operand where nothing is written round it
abbrev pub first_name_of : List Expr → Option Name
first_name_of [] = None
first_name_of (e ∷ es) = sole_name e

abbrev pub template_name : Template → List Expr → Option Name
template_name (Operands Same) es = first_name_of es
template_name _ es = None

-- the name that the only one of expressions is
abbrev pub name_of_one : List Expr → Option Name
name_of_one (e ∷ []) = sole_name e
name_of_one _ = None

abbrev pub first_simple : List Expr → Bool
first_simple [] = false
first_simple (e ∷ es) = is_simple e

abbrev pub no_name : Option Name → Bool
no_name None = true
no_name (Some n) = false

-- whether the expression of a template over operands is a name or an unsigned literal
abbrev pub template_simple : Template → List Expr → Bool
template_simple Missing es = true
template_simple (Number w n) es = true
template_simple (Select low w) es = no_name (name_of_one es)
template_simple (Operands Same) es = first_simple es
template_simple (Operands f) es = false

-- ---- expressions

-- an expression is that of a template over others
pub record IsTemplate (e : Expr) (template : Template) (es : List Expr) : Type 0 where
  pub text : expr_text e [] ≡ template_text template es
  pub signed : is_signed e ≡ template_signed template es
  pub level_is : level e ≡ template_level template es
  pub called : sole_name e ≡ template_name template es
  pub simple : is_simple e ≡ template_simple template es
