-- Where the operands of a form stand: whether the context gives them the full width.
use Rattle.std.specs.Prelude.{ℕ, ◌+◌, Bool, true, false, cond, not, ◌&&◌, ◌||◌, ◌==◌, List, [], ◌∷◌, Option, Some, None}
use Rattle.hw_model.specs.Design.{Ref, Port, Op}
use Rattle.verilog_model.specs.Tree.{Expr}
use Rattle.verilog_expr.specs.Extensions.{is_simple, is_zero_in}
use Rattle.verilog_expr.specs.Expressions.{op_at, value_width, lends}
use Rattle.verilog_expr.specs.declared.extending.Extending.{Extending}
use Rattle.verilog_expr.specs.declared.extending.Extending.TheVariants.{Off, Own, Given}
use Rattle.verilog_expr.specs.declared.form.Operator.{Operator}
use Rattle.verilog_expr.specs.declared.form.Operator.TheVariants.{Below, AtMost, Above, AtLeast, Equals, Differs}
use Rattle.verilog_expr.specs.declared.form.Form.{Form}
use Rattle.verilog_expr.specs.declared.form.Form.TheVariants.{Same, Chain, UnsignedShift, UnsignedDivision, Braces, Choice}
use Rattle.verilog_expr.specs.declared.template.Template.{Template}
use Rattle.verilog_expr.specs.declared.template.Template.TheVariants.{Operands}

abbrev pub is_comparison : Operator → Bool
is_comparison Below = true
is_comparison AtMost = true
is_comparison Above = true
is_comparison AtLeast = true
is_comparison Equals = true
is_comparison Differs = true
is_comparison _ = false

-- whether the operands are compared as unsigned ones
abbrev pub form_compares : Form → Bool
form_compares (Chain o) = is_comparison o
form_compares _ = false

-- whether the width of the context is passed on to the operand of a number
abbrev pub form_passes : Form → ℕ → Bool
form_passes Same i = true
form_passes (Chain o) i = not (is_comparison o)
form_passes (UnsignedShift o) i = i == 0
form_passes (UnsignedDivision o w d) i = i == 0
form_passes Choice i = not (i == 0)
form_passes _ i = false

-- where an operand stands, which another one lends the full width or not
abbrev pub place_lent : Extending → Form → ℕ → Bool → Extending
place_lent Off f i lent = Off
place_lent Own f i lent = cond lent Given Own
place_lent Given f i lent = cond (form_passes f i || lent) Given Own

-- the same, where another one may lend it if the two are compared
abbrev pub place_in : Extending → Form → ℕ → Bool → Extending
place_in x f i lends = place_lent x f i (form_compares f && lends)

-- the same for a template; of what is selected from, as the whole stands
abbrev pub place_under : Extending → Template → ℕ → Bool → Extending
place_under x (Operands f) i lends = place_in x f i lends
place_under x _ i lends = x

-- the expressions of operands in their places, of which the first has this number, among all
abbrev pub placed_exprs : Extending → (Extending → Ref → Expr) → Template → List Ref → ℕ → List Ref → List Expr
placed_exprs x ex template all i [] = []
placed_exprs x ex template all i (r ∷ rs) = ex (place_under x template i (lends ex all i)) r ∷ placed_exprs x ex template all (i + 1) rs

abbrev pub is_braces : Template → Bool
is_braces (Operands Braces) = true
is_braces _ = false

-- the second operand of a zero extension
abbrev pub alone_in : List Port → List Op → (Extending → Ref → Expr) → Template → List Ref → Option Expr
alone_in ports os ex template (a ∷ b ∷ []) =
    cond (is_braces template && (is_zero_in (op_at os a) (value_width ports os a) && is_simple (ex Off b))) (Some (ex Off b)) None
alone_in ports os ex template _ = None
