-- The expression of a value, and what is seen of it before it is written.
use Rattle.std.specs.Prelude.{◌≡◌, ℕ, ◌+◌, ◌-◌, Bool, cond, ◌&&◌, ◌==◌, nat_lt, slice_get, length, List, [], ◌∷◌, ◌++◌, map, Option, Some, None, decimal, codes}
use Rattle.hw_model.specs.Types.{Name}
use Rattle.hw_model.specs.Design.{Ref, Port, Op}
use Rattle.hw_model.specs.Design.Ref.{result}
use Rattle.ir_store.specs.declared.operation.Value.{Value}
use Rattle.verilog_model.specs.Tree.{Expr}
use Rattle.verilog_model.specs.Grammar.{level}
use Rattle.verilog_model.specs.Expression.{is_signed}
use Rattle.verilog_expr.specs.Building.{no_expr}
use Rattle.verilog_expr.specs.Expressions.{value_width, own_expr, expr_to}
use Rattle.verilog_model.specs.Text.{expr_text}
use Rattle.verilog_expr.specs.Scopes.{scope_ports, scope_ops, scope_ref}
use Rattle.verilog_expr.specs.Named.{named_of}
use Rattle.verilog_expr.specs.Extensions.{alone_or}
use Rattle.verilog_expr.specs.Places.{placed_exprs, alone_in}
use Rattle.verilog_expr.specs.Templates.{template_signed, template_level, template_name, IsTemplate}
use Rattle.verilog_expr.specs.declared.extending.Extending.{Extending}
use Rattle.verilog_expr.specs.declared.info.Wrap.{Wrap}
use Rattle.verilog_expr.specs.declared.info.Wrap.TheVariants.{Bare, Unsigned, Paren}
use Rattle.verilog_expr.specs.declared.form.Form.{Form}
use Rattle.verilog_expr.specs.declared.form.Form.TheVariants.{Same, UnsignedDivision, SignedDivision}
use Rattle.verilog_expr.specs.declared.template.Template.{Template}
use Rattle.verilog_expr.specs.declared.template.Template.TheVariants.{Operands}
use Rattle.verilog_expr.specs.declared.scope.Scope.{Scope}
use Rattle.verilog_expr.specs.declared.value_names.ValueNames.{ValueNames}

-- the expression of a value, down to a depth
abbrev pub expr_at : Scope → ValueNames → ℕ → Extending → Value → Expr
expr_at s v n x y = expr_to (named_of v) (scope_ports s) (scope_ops s) n x (scope_ref s y)

-- the expressions of all values, each down to a depth
abbrev pub exprs_to : Scope → ValueNames → ℕ → Extending → Ref → Expr
exprs_to s v n x r = expr_to (named_of v) (scope_ports s) (scope_ops s) n x r

-- the expressions of a template's operands in their places, of which the first has this number, among all
abbrev pub placed_at : Scope → ValueNames → ℕ → Extending → Template → List Value → ℕ → List Value → List Expr
placed_at s v n x template all i ys = placed_exprs x (exprs_to s v n) template (map (scope_ref s) all) i (map (scope_ref s) ys)

-- those that are written of a form's operands
abbrev pub shown_at : Scope → ValueNames → ℕ → Extending → Form → List Value → ℕ → List Value → List Expr
shown_at s v n x f all i ys = placed_at s v n x (Operands f) all i ys

-- the text of an expression where there is one, and else another one
abbrev pub text_or : Option Expr → List ℕ → List ℕ
text_or None t = t
text_or (Some e) t = expr_text e []

-- the bits of the first of values
abbrev pub head_width : List Port → List Op → List Ref → ℕ
head_width ports os [] = 0
head_width ports os (r ∷ rs) = value_width ports os r

-- the text of some bits of a name
abbrev pub select_text : Option Name → ℕ → ℕ → List ℕ
select_text None low w = expr_text no_expr []
select_text (Some n) low w =
    n ++ (codes "[" ++ cond (w == 1) (decimal low ++ codes "]") (decimal (low + w - 1) ++ (codes ":" ++ (decimal low ++ codes "]"))))

-- the operand that a template's expression is, or what is seen of the expression without its operands
abbrev pub IsOnly : Template → List Value → Option Value → Type 0
IsOnly template xs (Some x) = (template ≡ Operands Same) × (slice_get xs 0 ≡ Some x)
IsOnly template xs None = (es : List Expr) → length es ≡ length xs → (template_signed template es ≡ template_signed template []) × (template_level template es ≡ template_level template []) × (template_name template es ≡ None)

-- an operation is one of the body
pub record IsOpOf (s : Scope) (o : Op) : Type 0 where
  pub position : ℕ
  pub there : slice_get (scope_ops s) position ≡ Some o

-- a value is a result of an operation of the body
pub record IsResultOf (s : Scope) (o : Op) (k : ℕ) (r : Ref) : Type 0 where
  pub position : ℕ
  pub is : r ≡ result position k
  pub there : slice_get (scope_ops s) position ≡ Some o

-- the operands that are written
abbrev pub first_value : List Value → List Value
first_value [] = []
first_value (x ∷ xs) = x ∷ []

abbrev pub shown_values : Form → List Value → List Value
shown_values (UnsignedDivision o w d) xs = first_value xs
shown_values (SignedDivision o w d) xs = first_value xs
shown_values _ xs = xs

-- ---- positions

-- how an expression goes into a position that asks for an unsigned one or not and for so much binding strength
abbrev pub wrap_for : Bool → ℕ → Bool → ℕ → Wrap
wrap_for u l is_signed level = cond (u && is_signed) Unsigned (cond (nat_lt level l) Paren Bare)

abbrev pub open_text : Wrap → List ℕ
open_text Bare = []
open_text Unsigned = codes "$unsigned("
open_text Paren = codes "("

abbrev pub close_text : Wrap → List ℕ
close_text Bare = []
close_text Unsigned = codes ")"
close_text Paren = codes ")"

-- the expression of a value's own operation is that of a template over values in their places, or the second of them where
-- they are a zero extension in a context that gives the full width
pub record IsMade (s : Scope) (r : Ref) (template : Template) (operands : List Value) (named : Ref → Option Name) (ex : Extending → Ref → Expr) (x : Extending) : Type 0 where
  pub whole : Expr
  pub own : own_expr named (scope_ports s) (scope_ops s) ex x r ≡ alone_or x (alone_in (scope_ports s) (scope_ops s) ex template (map (scope_ref s) operands)) whole
  pub is : IsTemplate whole template (placed_exprs x ex template (map (scope_ref s) operands) 0 (map (scope_ref s) operands))

-- the same, whatever names the values have and however their expressions are written
pub record IsNodeOf (s : Scope) (r : Ref) (template : Template) (operands : List Value) : Type 0 where
  pub made : (named : Ref → Option Name) (ex : Extending → Ref → Expr) (x : Extending) → IsMade s r template operands named ex x
