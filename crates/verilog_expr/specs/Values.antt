-- What the expressions of a body are worth.
use Rattle.std.specs.Prelude.{◌≡◌, ℕ, ℤ, suc, max, ◌<◌, ◌≤◌, ◌^◌, Bool, true, false, ◌&&◌, ◌||◌, List, [], ◌∷◌, length, Option, Some, None, is_some, slice_get}
use Rattle.wiring.specs.Wiring.{In}
use Rattle.bits_core.specs.Word.{Word, bits, bits_of_ℤ}
use Rattle.hw_model.specs.Types.{Name, HwType, width}
use Rattle.hw_model.specs.Kinds.{Kind}
use Rattle.hw_model.specs.Kinds.Kind.{variadic, division, constant, aggregate_constant, on_array, on_struct}
use Rattle.hw_model.specs.Design.{Ref, Port, Op, instance_in, is_output_kind, register_form, is_instance, is_register, is_output_op, result_type}
use Rattle.hw_model.specs.Design.Ref.{port, result}
use Rattle.hw_model.specs.Flat.{width_of}
use Rattle.hw_model.specs.Sound.{type_in, OpFits}
use Rattle.verilog_model.specs.Tree.{Expr}
use Rattle.verilog_model.specs.Tree.Expr.{name}
use Rattle.verilog_model.specs.Expression.{length_of, is_signed, value}
use Rattle.verilog_expr.specs.Extensions.{passes_width, compares_unsigned}
use Rattle.verilog_expr.specs.Expressions.{value_width, constant_of}
use Rattle.verilog_expr.specs.Spilling.{is_pure, is_constant_kind, is_narrower, spilled}

-- a length is that of a context, or at most that where the context gives its own
abbrev pub IsAsLong : Bool → ℕ → ℕ → Type 0
IsAsLong false w n = n ≡ w
IsAsLong true w n = n ≤ w

-- the value of an expression in a context of w bits, by its own sign
abbrev pub value_in : (Name → ℕ) → (Name → Word) → ℕ → Expr → Word
value_in widths ρ w e = value widths ρ w (is_signed e) e

-- an expression has w bits, or at most as many where the context gives the full width and it is unsigned, and its value in a
-- context of w bits has as many
pub record HasBits (widths : Name → ℕ) (ρ : Name → Word) (given : Bool) (w : ℕ) (e : Expr) : Type 0 where
  pub long : IsAsLong given w (length_of widths e)
  pub full : is_signed e ≡ true → length_of widths e ≡ w
  pub worth : length (value_in widths ρ w e) ≡ w

-- each expression has the bits of its type, where the context gives the full width or not
abbrev pub HaveBits : (Name → ℕ) → (Name → Word) → (ℕ → Bool) → List (Option HwType) → List Expr → Type 0
HaveBits widths ρ at [] [] = Unit {0}
HaveBits widths ρ at [] (e ∷ es) = ⊥
HaveBits widths ρ at (x ∷ xs) [] = ⊥
HaveBits widths ρ at (x ∷ xs) (e ∷ es) = HasBits widths ρ (at 0) (width_of x) e × HaveBits widths ρ (λ i. at (suc i)) xs es

-- the values of expressions, each in a context of the width of its turn
abbrev pub values_in : (Name → ℕ) → (Name → Word) → List ℕ → List Expr → List Word
values_in widths ρ (w ∷ ws) (e ∷ es) = value_in widths ρ w e ∷ values_in widths ρ ws es
values_in widths ρ _ _ = []

-- an expression is a name of v bits, and so is its word
pub record IsWholeName (widths : Name → ℕ) (ρ : Name → Word) (v : ℕ) (e : Expr) : Type 0 where
  pub called : Name
  pub same : e ≡ name called
  pub long : widths called ≡ v
  pub whole : length (ρ called) ≡ v

-- ---- kinds

-- whether a kind is of aggregates
abbrev pub is_aggregate_kind : Kind → Bool
is_aggregate_kind (aggregate_constant ls) = true
is_aggregate_kind (on_array a) = true
is_aggregate_kind (on_struct s) = true
is_aggregate_kind _ = false

abbrev pub is_division : Kind → Bool
is_division (division d) = true
is_division _ = false

-- whether a kind takes any number of operands, from one on, of its result's type
abbrev pub is_variadic : Kind → Bool
is_variadic (variadic v) = true
is_variadic _ = false

-- whether a kind gives no value from its operands' values: a register's, an instance's, a module's output
abbrev pub is_item_kind : Kind → Bool
is_item_kind kind = is_some (register_form kind) || (is_some (instance_in kind) || is_output_kind kind)

-- whether the operand of a number may stand in a context that gives the full width, where the operation stands in one or not
abbrev pub given_to : Bool → Kind → ℕ → Bool
given_to given kind i = compares_unsigned kind || (passes_width kind i && given)

-- ---- operations

-- what an operation of a kind with a result of type t asks of the types and the expressions of its operands, to be
-- written as an expression in a context that gives the full width or not
pub record IsBuildable (widths : Name → ℕ) (ρ : Name → Word) (given : Bool) (kind : Kind) (xs : List (Option HwType)) (t : HwType) (es : List Expr) : Type 0 where
  pub integers : is_aggregate_kind kind ≡ false
  pub values : is_item_kind kind ≡ false
  pub filled : is_variadic kind ≡ true → 1 ≤ length xs
  pub bits : 1 ≤ width t
  pub narrow : width t < 2 ^ 64
  pub narrow_operands : (x : Option HwType) → In x xs → width_of x < 2 ^ 64
  pub operands : HaveBits widths ρ (given_to given kind) xs es
  -- one of two operands that are compared has all bits
  pub compared : compares_unsigned kind ≡ true → (x y : Option HwType) (a b : Expr) → xs ≡ x ∷ y ∷ [] → es ≡ a ∷ b ∷ []
      → max (length_of widths a) (length_of widths b) ≡ width_of x
  pub cut : (x : Option HwType) (e : Expr) → xs ≡ x ∷ [] → es ≡ e ∷ [] → is_narrower kind (width t) (width_of x) ≡ true → IsWholeName widths ρ (width_of x) e

-- what a division by a literal of w bits asks: the second operand always is the literal's number
abbrev pub IsDividedBy : (Name → ℕ) → (Name → Word) → Kind → ℕ → ℕ → List Expr → Type 0
IsDividedBy widths ρ kind w divisor es = is_division kind ≡ true → (a b : Expr) → es ≡ a ∷ b ∷ [] → value_in widths ρ w b ≡ bits w divisor

-- whether an operation gives values from its operands' values: a pure one, or a wire
abbrev pub gives_values : Op → Bool
gives_values o = opposite (is_register o || (is_instance o || is_output_op o)) where
  opposite : Bool → Bool
  opposite true = false
  opposite false = true

-- a divisor is the value of a constant that is not 0 in its type
pub record IsDivision (os : List Op) (o : Op) : Type 0 where
  pub dividend : Ref
  pub divisor : ℕ
  pub operands : o.operands ≡ dividend ∷ result divisor 0 ∷ []
  pub by : Op
  pub there : slice_get os divisor ≡ Some by
  pub constant : is_constant_kind by.kind ≡ true
  pub not_zero : (t : HwType) → result_type o 0 ≡ Some t → 0 < constant_of (Some by) (width t)

-- a body whose values can be written as expressions over the names: its operations fit and are of integers, no width is
-- past the numbers of a machine, divisors are constants, and a name has what is no pure operation's, what is cut, and what
-- has a wire
pub record IsWritable (named : Ref → Option Name) (ports : List Port) (os : List Op) : Type 0 where
  pub fits : (i : ℕ) (o : Op) → slice_get os i ≡ Some o → OpFits (type_in ports os) o
  pub integers : (i : ℕ) (o : Op) → slice_get os i ≡ Some o → is_aggregate_kind o.kind ≡ false
  pub filled : (i : ℕ) (o : Op) → slice_get os i ≡ Some o → is_variadic o.kind ≡ true → 1 ≤ length o.operands
  pub bits : (i k : ℕ) (o : Op) (t : HwType) → slice_get os i ≡ Some o → result_type o k ≡ Some t → 1 ≤ width t
  pub narrow : (r : Ref) → value_width ports os r < 2 ^ 64
  pub divisions : (i : ℕ) (o : Op) → slice_get os i ≡ Some o → is_division o.kind ≡ true → IsDivision os o
  pub inputs : (j : ℕ) (t : HwType) → type_in ports os (port j) ≡ Some t → is_some (named (port j)) ≡ true
  pub owned : (i k : ℕ) (o : Op) (t : HwType) → slice_get os i ≡ Some o → result_type o k ≡ Some t → is_pure o ≡ false
      → is_some (named (result i k)) ≡ true
  pub wires : (i k : ℕ) (o : Op) (t : HwType) → slice_get os i ≡ Some o → result_type o k ≡ Some t → named (result i k) ≡ None
      → spilled ports os (result i k) ≡ false
  pub cuts : (i : ℕ) (o : Op) (r : Ref) → slice_get os i ≡ Some o → o.operands ≡ r ∷ []
      → is_narrower o.kind (width_of (result_type o 0)) (value_width ports os r) ≡ true → is_some (named r) ≡ true
  pub one_result : (i k : ℕ) (o : Op) (t : HwType) → slice_get os i ≡ Some o → gives_values o ≡ true → result_type o k ≡ Some t → k ≡ 0

-- names have the widths and the words of their values
pub record AreNamed (named : Ref → Option Name) (ports : List Port) (os : List Op) (widths : Name → ℕ) (ρ : Name → Word) : Type 0 where
  pub long : (r : Ref) (n : Name) → named r ≡ Some n → widths n ≡ value_width ports os r
  pub worth : (r : Ref) (n : Name) → named r ≡ Some n → length (ρ n) ≡ value_width ports os r

-- the names of constants have their words
abbrev pub HoldConstants : (Ref → Option Name) → List Op → (Name → Word) → Type 0
HoldConstants named os ρ = (i : ℕ) (o : Op) (z : ℤ) (t : HwType) (n : Name) → slice_get os i ≡ Some o → o.kind ≡ constant z
    → result_type o 0 ≡ Some t → named (result i 0) ≡ Some n → ρ n ≡ bits_of_ℤ (width t) z
