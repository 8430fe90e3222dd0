-- The expressions of the values of a body: a value that has a name is written by it, any other one by its operation; a zero
-- extension as its operand alone where that is asked for and the context gives the full width.
use Rattle.std.specs.Prelude.{◌≡◌, ℕ, zero, suc, ◌+◌, Bool, true, false, cond, ◌&&◌, ◌==◌, List, [], ◌∷◌, map, Option, Some, None, is_some, slice_get}
use Rattle.bits_core.specs.Word.{number, bits_of_ℤ}
use Rattle.hw_model.specs.Types.{Name, HwType, width}
use Rattle.hw_model.specs.Kinds.{Kind}
use Rattle.hw_model.specs.Kinds.Kind.{constant, concat}
use Rattle.hw_model.specs.Design.{Ref, Port, Op, result_type}
use Rattle.hw_model.specs.Design.Ref.{port, result, undefined}
use Rattle.hw_model.specs.Flat.{width_of}
use Rattle.hw_model.specs.Sound.{type_in}
use Rattle.verilog_model.specs.Tree.{Expr}
use Rattle.verilog_model.specs.Tree.Expr.{name}
use Rattle.verilog_model.specs.Digits.{literal_of}
use Rattle.verilog_expr.specs.Building.{no_expr, kind_expr}
use Rattle.verilog_expr.specs.Extensions.{is_simple, place_of, is_concat, is_zero_in, alone_or}
use Rattle.verilog_expr.specs.declared.extending.Extending.{Extending}
use Rattle.verilog_expr.specs.declared.extending.Extending.TheVariants.{Off}

-- the operation whose first result a value is
abbrev pub op_at : List Op → Ref → Option Op
op_at os (result i zero) = slice_get os i
op_at os (result i (suc k)) = None
op_at os (port j) = None
op_at os undefined = None

-- the bits of a value
abbrev pub value_width : List Port → List Op → Ref → ℕ
value_width ports os r = width_of (type_in ports os r)

-- ---- divisors

abbrev pub constant_number : Kind → ℕ → ℕ
constant_number (constant z) w = number (bits_of_ℤ w z)
constant_number _ w = 0

abbrev pub constant_of : Option Op → ℕ → ℕ
constant_of None w = 0
constant_of (Some o) w = constant_number o.kind w

-- the number that the second of two operands always has
abbrev pub divisor_in : List Op → ℕ → List Ref → ℕ
divisor_in os w (a ∷ b ∷ []) = constant_of (op_at os b) w
divisor_in os w _ = 0

-- the literal of the constant that a value is, whether or not it has a name (IEEE 1364-2005, 3.5.1); of any other value
-- that of 0
abbrev pub constant_expr : List Port → List Op → Ref → Expr
constant_expr ports os r = literal_of (value_width ports os r) false (constant_of (op_at os r) (value_width ports os r))

-- ---- expressions

abbrev pub name_or : Option Name → Expr → Expr
name_or None e = e
name_or (Some n) e = name n

-- whether an operand of two lends the full width to the other one, of a number: it is, written with all zeros, a name or a
-- literal
abbrev pub lends : (Extending → Ref → Expr) → List Ref → ℕ → Bool
lends ex (a ∷ b ∷ []) i = cond (i == 0) (is_simple (ex Off b)) (is_simple (ex Off a))
lends ex _ i = false

-- the expressions of operands in their places, of which the first has this number, among all
abbrev pub operand_exprs : Extending → (Extending → Ref → Expr) → Kind → List Ref → ℕ → List Ref → List Expr
operand_exprs x ex kind all i [] = []
operand_exprs x ex kind all i (r ∷ rs) = ex (place_of x kind i (lends ex all i)) r ∷ operand_exprs x ex kind all (i + 1) rs

-- the second operand of a zero extension, written with all zeros
abbrev pub extended_in : List Port → List Op → (Extending → Ref → Expr) → Kind → List Ref → Option Expr
extended_in ports os ex kind (a ∷ b ∷ []) =
    cond (is_concat kind && (is_zero_in (op_at os a) (value_width ports os a) && is_simple (ex Off b))) (Some (ex Off b)) None
extended_in ports os ex kind _ = None

module _ (named : Ref → Option Name) (ports : List Port) (os : List Op) where
  -- the expression of an operation that gives a result of a type, from those of its operands
  abbrev pub op_expr : (Extending → Ref → Expr) → Extending → Op → ℕ → Expr
  op_expr ex x o w = kind_expr o.kind w (map (value_width ports os) o.operands) (divisor_in os w o.operands) (operand_exprs x ex o.kind o.operands 0 o.operands)

  -- a zero extension is its second operand where the context gives the full width
  abbrev pub typed_expr : (Extending → Ref → Expr) → Extending → Op → Option HwType → Expr
  typed_expr ex x o None = no_expr
  typed_expr ex x o (Some t) = alone_or x (extended_in ports os ex o.kind o.operands) (op_expr ex x o (width t))

  abbrev pub result_expr : (Extending → Ref → Expr) → Extending → ℕ → Option Op → Expr
  result_expr ex x k None = no_expr
  result_expr ex x k (Some o) = typed_expr ex x o (result_type o k)

  -- what stands for a value that has no name, and what is assigned to its name where it has one
  abbrev pub own_expr : (Extending → Ref → Expr) → Extending → Ref → Expr
  own_expr ex x (result i k) = result_expr ex x k (slice_get os i)
  own_expr ex x (port j) = no_expr
  own_expr ex x undefined = no_expr

  abbrev pub expr_step : (Extending → Ref → Expr) → Extending → Ref → Expr
  expr_step ex x r = name_or (named r) (own_expr ex x r)

  -- the expressions of a body, where each is made from those of its operation's operands
  abbrev pub AreExprs : (Extending → Ref → Expr) → Type 0
  AreExprs ex = (x : Extending) (r : Ref) → ex x r ≡ expr_step ex x r

  -- the expression of a value, down to a depth of operations without names
  unfoldable pub expr_to : ℕ → Extending → Ref → Expr
  expr_to zero x r = no_expr
  expr_to (suc n) x r = expr_step (expr_to n) x r

-- ---- zero extensions

-- a value is a concatenation of a zero constant and a second value, whose expression with all zeros written is a name or a
-- literal
pub record IsZeroExtension (ports : List Port) (os : List Op) (ex : Extending → Ref → Expr) (r b : Ref) : Type 0 where
  pub position : ℕ
  pub is : r ≡ result position 0
  pub op : Op
  pub there : slice_get os position ≡ Some op
  pub joined : op.kind ≡ concat
  pub typed : is_some (result_type op 0) ≡ true
  pub zero : Ref
  pub operands : op.operands ≡ zero ∷ b ∷ []
  pub zeros : is_zero_in (op_at os zero) (value_width ports os zero) ≡ true
  pub simple : is_simple (ex Off b) ≡ true
